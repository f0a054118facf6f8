-- What is left of a walk over the blocks of a leaf's cell.
use Rattle.std.specs.Prelude.{◌≡◌, ℕ, ◌+◌, ◌-◌, ◌*◌, ◌<◌, List, [], length, map, slice_get, Some, ⊤}
use Rattle.track_types.specs.declared.cell.Cell.{Cell}
use Rattle.snapshots.specs.View.{SnapshotView, block_at, blocks_in, leaf_at, places_from, tree_in}
use Rattle.snapshots.specs.Cost.{block_reads, first_reads}
use Rattle.snapshots.specs.declared.anchored.Anchored.{Anchored}
use Rattle.snapshots.specs.declared.next.Next.{Next}
use Rattle.snapshots.specs.declared.next.Next.TheVariants.{First, Place, End}

-- the period, the blocks that are left, and a bound on the reads that are still to be made for them
pub record MembersView : Type 0 where
  pub period : ℕ
  pub blocks : List Anchored
  pub reads : ℕ

-- the blocks of a leaf from a place in leaf order on
abbrev pub blocks_from : SnapshotView → ℕ → ℕ → List Anchored
blocks_from view leaf place = map (block_at view) (places_from view leaf place (length view.parts.perm - place))

-- the blocks that are left
abbrev pub members_left : SnapshotView → ℕ → Next → List Anchored
members_left view leaf First = blocks_in view leaf
members_left view leaf (Place place) = blocks_from view leaf place
members_left view leaf End = []

-- the reads by which the first place is looked for
abbrev pub first_place_reads : Next → ℕ
first_place_reads First = first_reads
first_place_reads (Place place) = 0
first_place_reads End = 0

-- the view of such a walk
abbrev pub members_of : SnapshotView → ℕ → Next → MembersView
members_of view leaf next = record {
  period = view.number;
  blocks = members_left view leaf next;
  reads = first_place_reads next + block_reads * length (members_left view leaf next);
}

-- a place is one of the leaf's
abbrev pub IsAt : SnapshotView → ℕ → Next → Type 0
IsAt view leaf First = ⊤
IsAt view leaf (Place place) = (place < length view.parts.perm) × (leaf_at view place ≡ leaf)
IsAt view leaf End = ⊤

-- the tree has the leaf with its cell, and the walk is at one of its places
pub record AreMembers (view : SnapshotView) (leaf : ℕ) (cell : Cell) (next : Next) : Type 0 where
  pub known : slice_get (tree_in view).cells leaf ≡ Some cell
  pub at : IsAt view leaf next

-- What a period's snapshot says, on plain lists.
use Rattle.std.specs.Prelude.{◌≡◌, ℕ, ◌+◌, ◌<◌, ◌==◌, ◌&&◌, Bool, false, if◌then◌else◌, List, [], length, map, filter, take, sum}
use Rattle.std.specs.Prelude.{slice_index, slice_index_or, Option, None, Some}
use Rattle.std.specs.List.{filter_map, range_with_len}
use Rattle.bit_rank.specs.Bits.{rank_of, select_of}
use Rattle.object_perm.specs.Permutation.{inverse_of}
use Rattle.track_types.specs.Frame.{wide_of}
use Rattle.track_types.specs.declared.cell.Cell.{Cell}
use Rattle.track_types.specs.declared.frame.Frame.{Frame}
use Rattle.track_types.specs.declared.period_parts.PeriodParts.{PeriodParts}
use Rattle.k2_tree.specs.Tree.{Tree, tree_of, tree_with}
use Rattle.k2_tree.specs.Widths.{widths_of}
use Rattle.snapshots.specs.declared.anchored.Anchored.{Anchored}

-- the parts of a period, with the header, the period's number, how many objects there are, and where its logs begin
pub record SnapshotView : Type 0 where
  pub frame : Frame
  pub number : ℕ
  pub objects : ℕ
  pub start : ℕ
  pub parts : PeriodParts

-- the view with these parts and numbers
abbrev pub view_with : Frame → ℕ → ℕ → ℕ → PeriodParts → SnapshotView
view_with frame number objects start parts =
    record { frame = frame; number = number; objects = objects; start = start; parts = parts }

-- the widths of the levels of a header's trees
abbrev pub widths_in : Frame → List ℕ
widths_in frame = widths_of frame.height (wide_of frame)

-- the tree of the anchors' cells
abbrev pub tree_in : SnapshotView → Tree
tree_in view = tree_of view.frame.height (wide_of view.frame) view.frame.base view.parts.tree

-- the tree of no cell under a header
abbrev pub tree_without : Frame → Tree
tree_without frame = tree_with frame.height (wide_of frame) frame.base []

-- the leaf of a place in leaf order
abbrev pub leaf_at : SnapshotView → ℕ → ℕ
leaf_at view place = rank_of view.parts.lasts place

-- the block of an object whose place among the present objects and whose cell are known
abbrev pub block_by : SnapshotView → ℕ → ℕ → Cell → Anchored
block_by view index rank cell = record {
  index = index;
  offset = slice_index view.parts.offsets rank;
  cell = cell;
  from = view.start + sum (take rank view.parts.lengths);
  len = slice_index view.parts.lengths rank;
}

-- the same where the place in leaf order is known in place of the cell
abbrev pub block_with : SnapshotView → ℕ → ℕ → ℕ → Anchored
block_with view index rank place =
    block_by view index rank (slice_index_or (tree_in view).cells (leaf_at view place) view.frame.base)

-- the place of an object among the present ones
abbrev pub rank_in : SnapshotView → ℕ → ℕ
rank_in view index = rank_of view.parts.present index

-- the place of a present object in leaf order
abbrev pub place_in : SnapshotView → ℕ → ℕ
place_in view index = inverse_of view.parts.perm (rank_in view index)

-- the block of a present object
abbrev pub present_block : SnapshotView → ℕ → Anchored
present_block view index = block_with view index (rank_in view index) (place_in view index)

-- the block of an object, if it has one in the period
abbrev pub block_of : SnapshotView → ℕ → Option Anchored
block_of view index = if slice_index_or view.parts.present index false then Some (present_block view index) else None

-- all blocks of the period, by object
unfoldable pub all_blocks : SnapshotView → List Anchored
all_blocks view = filter_map (block_of view) (range_with_len 0 view.objects)

-- the block at a place in leaf order
abbrev pub block_at : SnapshotView → ℕ → Anchored
block_at view place = block_with view
    (select_of view.parts.present (slice_index view.parts.perm place + 1)) (slice_index view.parts.perm place) place

-- an object has its block at a place in leaf order, and is at a place among the present ones
pub record IsPlaced (view : SnapshotView) (index place rank : ℕ) : Type 0 where
  pub within : place < length view.parts.perm
  pub ranked : rank ≡ slice_index view.parts.perm place
  pub selected : index ≡ select_of view.parts.present (rank + 1)
  pub block : block_of view index ≡ Some (block_at view place)

-- the places of a leaf in leaf order, from one on
abbrev pub places_from : SnapshotView → ℕ → ℕ → ℕ → List ℕ
places_from view leaf first count = filter (λ place. leaf_at view place == leaf) (range_with_len first count)

-- the blocks of a leaf's cell, by object
abbrev pub blocks_in : SnapshotView → ℕ → List Anchored
blocks_in view leaf = map (block_at view) (places_from view leaf 0 (length view.parts.perm))

-- the object is present, and its block is in the leaf's cell
abbrev pub is_at : SnapshotView → ℕ → ℕ → Bool
is_at view leaf index = slice_index_or view.parts.present index false && (leaf_at view (place_in view index) == leaf)

-- the blocks of a leaf's cell, found by going through all objects in order
abbrev pub objects_at : SnapshotView → ℕ → List Anchored
objects_at view leaf = map (present_block view) (filter (is_at view leaf) (range_with_len 0 view.objects))

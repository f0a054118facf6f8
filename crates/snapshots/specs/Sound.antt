-- What holds of a period's parts without a flaw, and of each of its blocks.
use Rattle.std.specs.Prelude.{◌≡◌, ℕ, ◌+◌, ◌-◌, ◌<◌, ◌≤◌, true, All, length, sum, slice_get, slice_index, Some}
use Rattle.packed_bits.specs.Bits.{ones_of}
use Rattle.object_perm.specs.Permutation.{PermutesPlaces}
use Rattle.track_types.specs.Frame.{instants_in, wide_of}
use Rattle.k2_tree.specs.Morton.{IsInGrid}
use Rattle.k2_tree.specs.Flaws.{StandsFor}
use Rattle.snapshots.specs.View.{SnapshotView, block_of, leaf_at, tree_in}
use Rattle.snapshots.specs.Flaws.{IsShapedView}
use Rattle.snapshots.specs.declared.anchored.Anchored.{Anchored}

-- Each anchor is at one of the period's instants, and the tree bits are those of a set of cells. As many objects are
-- the last of their cell as there are cells, and the last one of all is. Leaf order is a permutation of the present
-- objects, and those of one cell ascend in it.
pub record IsSoundPeriod (view : SnapshotView) : Type 0 where
  pub offsets : All (λ offset. offset < instants_in view.frame view.number) view.parts.offsets
  pub tree : StandsFor view.frame.height (wide_of view.frame) view.frame.base view.parts.tree (tree_in view)
  pub cells : ones_of view.parts.lasts ≡ length (tree_in view).cells
  pub last : 0 < length view.parts.lasts → slice_get view.parts.lasts (length view.parts.lasts - 1) ≡ Some true
  pub permutes : PermutesPlaces view.parts.perm
  pub order : (p q : ℕ) → p < q → q < length view.parts.perm → leaf_at view p ≡ leaf_at view q
      → slice_index view.parts.perm p < slice_index view.parts.perm q

-- what holds of every snapshot: its parts are shaped and sound
pub record IsSnapshot (view : SnapshotView) : Type 0 where
  pub shaped : IsShapedView view
  pub sound : IsSoundPeriod view

-- What holds of every block that a snapshot gives: it is its object's, which is present. Its anchor is at one of the
-- period's instants and in the grid, and its log is one of the period's.
pub record IsBlock (view : SnapshotView) (block : Anchored) : Type 0 where
  pub its : block_of view block.index ≡ Some block
  pub present : slice_get view.parts.present block.index ≡ Some true
  pub offset : block.offset < instants_in view.frame view.number
  pub cell : IsInGrid view.frame.height view.frame.base block.cell
  pub from : view.start ≤ block.from
  pub to : block.from + block.len ≤ view.start + sum view.parts.lengths

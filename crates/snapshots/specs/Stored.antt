-- How a snapshot is stored: what there is of its tree and its blocks where it has one.
use Rattle.std.specs.Prelude.{◌≡◌, ℕ, ◌+◌, false, List, [], length, map, take, sum, Option, None, Some, replicate}
use Rattle.std.specs.List.{range_with_len}
use Rattle.std.specs.Global.{Box}
use Rattle.track_types.specs.declared.frame.Frame.{Frame}
use Rattle.track_types.specs.declared.period_parts.PeriodParts.{PeriodParts}
use Rattle.k2_tree.specs.Tree.{Tree, tree_bits}
use Rattle.snapshots.specs.View.{SnapshotView, tree_in, tree_without}
use Rattle.snapshots.specs.Sound.{IsSnapshot}
use Rattle.snapshots.specs.declared.blocks.Blocks.{Blocks}
use Rattle.snapshots.specs.declared.period_store.PeriodStore.{PeriodStore}
use Rattle.snapshots.specs.declared.period_store.PeriodStore.TheVariants.{Empty, Filled}

-- what is stored of a period's blocks
abbrev pub blocks_stored : PeriodStore → Option (Box Blocks)
blocks_stored (Empty objects header) = None
blocks_stored (Filled objects blocks) = Some blocks

-- the header that is stored
abbrev pub frame_stored : PeriodStore → Frame
frame_stored (Empty objects header) = header.value
frame_stored (Filled objects blocks) = blocks.value.header.value

-- how many objects there are, as it is stored
abbrev pub objects_stored : PeriodStore → ℕ
objects_stored (Empty objects header) = objects
objects_stored (Filled objects blocks) = objects

-- where the log of each present object begins, the first one at a place
abbrev pub starts_of : ℕ → List ℕ → List ℕ
starts_of start lengths = map (λ rank. start + sum (take rank lengths)) (range_with_len 0 (length lengths))

-- the parts of what is stored of blocks
abbrev pub parts_of_blocks : Blocks → PeriodParts
parts_of_blocks blocks = record {
  present = blocks.present;
  offsets = blocks.offsets;
  tree = tree_bits blocks.tree;
  lasts = blocks.lasts;
  perm = blocks.perm;
  lengths = blocks.lengths;
}

-- the parts of so many objects that are stored: where nothing is stored of blocks, no object is present
abbrev pub parts_with : ℕ → Option (Box Blocks) → PeriodParts
parts_with objects None = record {
  present = replicate objects false;
  offsets = [];
  tree = [];
  lasts = [];
  perm = [];
  lengths = [];
}
parts_with objects (Some blocks) = parts_of_blocks blocks.value

-- where the logs are stored to begin
abbrev pub starts_in : Option (Box Blocks) → List ℕ
starts_in None = []
starts_in (Some blocks) = blocks.value.starts

-- the stored tree of the anchors' cells: where nothing is stored of blocks, it is that of no cell
abbrev pub tree_stored : Frame → Option (Box Blocks) → Tree
tree_stored frame None = tree_without frame
tree_stored frame (Some blocks) = blocks.value.tree

-- the view of what is stored
abbrev pub snapshot_view : Frame → ℕ → ℕ → ℕ → Option (Box Blocks) → SnapshotView
snapshot_view frame number objects start blocks = record {
  frame = frame;
  number = number;
  objects = objects;
  start = start;
  parts = parts_with objects blocks;
}

-- what is stored belongs to the view
pub record IsStoredSnapshot (view : SnapshotView) (tree : Tree) (starts : List ℕ) : Type 0 where
  pub is : IsSnapshot view
  pub tree_is : tree_in view ≡ tree
  pub begin : starts ≡ starts_of view.start view.parts.lengths

-- what is stored of the view's blocks
pub record AreStoredBlocks (view : SnapshotView) (blocks : Blocks) : Type 0 where
  pub present : blocks.present ≡ view.parts.present
  pub offsets : blocks.offsets ≡ view.parts.offsets
  pub lasts : blocks.lasts ≡ view.parts.lasts
  pub perm : blocks.perm ≡ view.parts.perm
  pub lengths : blocks.lengths ≡ view.parts.lengths
  pub starts : blocks.starts ≡ starts_of view.start view.parts.lengths

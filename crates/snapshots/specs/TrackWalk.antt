-- What is left of a walk over the blocks of a period that may hold what is sought.
use Rattle.std.specs.Prelude.{ℕ, ◌+◌, ◌*◌, Bool, false, List, [], length, map, slice_index, slice_index_or, Option, None, Some}
use Rattle.step_count.specs.Reads.{Read, is_of_period}
use Rattle.track_types.specs.declared.cell.Cell.{Cell}
use Rattle.track_types.specs.declared.cell_box.CellBox.{CellBox}
use Rattle.k2_tree.specs.Areas.{area_at}
use Rattle.k2_tree.specs.Squares.{node}
use Rattle.box_tree.specs.BoxWalk.{box_budget, box_left}
use Rattle.snapshots.specs.Cost.{record_reads}
use Rattle.snapshots.specs.declared.anchored.Anchored.{Anchored}
use Rattle.snapshots.specs.declared.track_tree.TrackTree.{TrackTree}
use Rattle.snapshots.specs.declared.kept_walk.KeptWalk.{KeptWalk}
use Rattle.snapshots.specs.declared.tracks.Tracks.{Tracks}

-- the least cell of a box
abbrev pub corner_of : CellBox → Cell
corner_of area = record { x = area.x1; y = area.y1 }

-- the block at a place
abbrev pub block_kept : TrackTree → ℕ → Anchored
block_kept kept place = record {
  index = (slice_index_or kept.logs place (0, 0)).1;
  offset = (slice_index_or kept.begins place (0, 0)).0;
  cell = corner_of (area_at kept.tree.base (node 0 (slice_index kept.tree.places.codes place)));
  from = (slice_index_or kept.begins place (0, 0)).1;
  len = (slice_index_or kept.logs place (0, 0)).0;
}

module _ {S : Type 0} where
  -- the reads that are needed for the blocks that are left of kept ones
  abbrev pub kept_needs : KeptWalk S → Read → Bool
  kept_needs walk = is_of_period walk.kept.now.number.value

  -- the reads that are needed for the blocks that are left
  abbrev pub blocks_needs : Option (KeptWalk S) → Read → Bool
  blocks_needs None read = false
  blocks_needs (Some walk) read = kept_needs walk read

  -- the reads that are needed for the blocks that are left of a period's
  abbrev pub tracks_needs : Tracks S → Read → Bool
  tracks_needs tracks = blocks_needs tracks.walk

module _ {S : Type 0} (squares boxes : S → CellBox → Bool) where
  -- the blocks that are left of kept ones
  abbrev pub kept_left : KeptWalk S → List Anchored
  kept_left walk = map (block_kept walk.kept.now) (box_left squares boxes walk.walk)

  -- a bound on the reads that are still to be made for them
  abbrev pub kept_budget : KeptWalk S → ℕ
  kept_budget walk = box_budget squares boxes walk.walk + record_reads * length (box_left squares boxes walk.walk)

  -- the blocks that are left
  abbrev pub blocks_left : Option (KeptWalk S) → List Anchored
  blocks_left None = []
  blocks_left (Some walk) = kept_left walk

  -- the reads that are still to be made for them
  abbrev pub blocks_budget : Option (KeptWalk S) → ℕ
  blocks_budget None = 0
  blocks_budget (Some walk) = kept_budget walk

  -- the blocks that are left of a period's
  unfoldable pub tracks_left : Tracks S → List Anchored
  tracks_left tracks = blocks_left tracks.walk

  -- a bound on the reads that are still to be made for them
  unfoldable pub tracks_budget : Tracks S → ℕ
  tracks_budget tracks = blocks_budget tracks.walk

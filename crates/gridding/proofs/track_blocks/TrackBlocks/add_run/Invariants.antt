use Rattle.std.proofs.Common.{◌≡◌, ◌++◌, List, map, take}
use Rattle.track_types.specs.declared.row.Row.{Row}
use Rattle.gridding.specs.GriddedRows.{AreBlocksOf}
use Rattle.gridding.specs.PackedPlace.{packed_row}
use Rattle.gridding.proofs.track_blocks.TrackBlocks.add_run.Given as goal

-- the rows of the places that are done are there
abbrev pub invariant-loop-place : goal.invariant-loop-place
invariant-loop-place l = record {
  blocks : (rows : List Row) → AreBlocksOf rows l.fn.self →
      AreBlocksOf (rows ++ map (packed_row l.origin l.object) (take l.place-index l.places)) l.self;
  origin : l.self.origin ≡ l.fn.self.origin;
}

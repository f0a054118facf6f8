use Rattle.std.proofs.Common.{◌≡◌, List, take}
use Rattle.std.specs.List.{flat_map}
use Rattle.track_types.specs.declared.row.Row.{Row}
use Rattle.gridding.specs.Blocks.{RunRef, rows_of_run, run_in}
use Rattle.gridding.specs.GriddedRows.{AreBlocksOf}
use Rattle.gridding.proofs.track_blocks.TrackBlocks.recounted.Given as goal

-- the rows of the runs that are done are there
abbrev pub invariant-loop-object : goal.invariant-loop-object
invariant-loop-object l =
    let rows_in : RunRef → List Row = λ entry. rows_of_run l.self.origin (run_in entry) in record {
      blocks : AreBlocksOf (flat_map rows_in (take l.object-index l.object-items)) l.tracks;
      origin : l.tracks.origin ≡ l.initial.tracks.origin;
    }

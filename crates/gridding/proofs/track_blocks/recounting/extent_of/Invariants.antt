use Rattle.std.proofs.Common.{◌≡◌, take}
use Rattle.track_types.specs.Quantities.{instants_of}
use Rattle.gridding.specs.Blocks.{rows_of_runs, runs_in}
use Rattle.track_types.specs.Extents.{extent_over}
use Rattle.gridding.specs.Recounting.{IsExtentWithin}
use Rattle.gridding.proofs.track_blocks.recounting.extent_of.Given as goal

-- the extent of the instants of the runs that are done
abbrev pub invariant-loop-object : goal.invariant-loop-object
invariant-loop-object l = record {
  exact : l.extent ≡ extent_over (instants_of (rows_of_runs l.origin (runs_in (take l.object-index l.runs))));
  near : IsExtentWithin l.extent;
}

use Rattle.std.proofs.Common.{◌≡◌, take}
use Rattle.std.specs.Prelude.{fold}
use Rattle.track_types.specs.Quantities.{instants_of}
use Rattle.gridding.specs.Blocks.{rows_of_run}
use Rattle.track_types.specs.Extents.{widened}
use Rattle.gridding.specs.Recounting.{IsExtentWithin}
use Rattle.gridding.proofs.track_blocks.recounting.extent_with.Given as goal

-- the extent of the instants that were looked at
abbrev pub invariant-loop-place : goal.invariant-loop-place
invariant-loop-place l = record {
  exact : l.extent ≡ fold widened l.fn.extent (instants_of (rows_of_run l.origin (l.object, take l.place-index l.places)));
  near : IsExtentWithin l.extent;
}

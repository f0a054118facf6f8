use Rattle.std.proofs.Common.{◌≡◌, take}
use Rattle.track_types.specs.Extents.{extents_over}
use Rattle.track_types.proofs.extents.Extents.of.Given as goal

-- the extents are those of the rows so far
abbrev pub invariant-loop-row : goal.invariant-loop-row
invariant-loop-row l = l.extents ≡ extents_over (take l.row-index l.rows)

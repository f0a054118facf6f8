use Rattle.std.proofs.Common.{◌≡◌, take}
use Rattle.gridding.specs.GridLimit.{base_of}
use Rattle.gridding.proofs.limits.check_base.Given as goal

-- the farthest of the cells so far
abbrev pub invariant-loop-row : goal.invariant-loop-row
invariant-loop-row l = l.farthest ≡ base_of (take l.row-index l.rows)

use Rattle.std.proofs.Common.{◌≡◌, map, max, take}
use Rattle.std.specs.Prelude.{fold}
use Rattle.log_bounds.specs.declared.bounds.LogBounds.{LogBounds}
use Rattle.snapshots.proofs.bounded.greatest_speed.Given as goal

abbrev pub invariant-loop-log : goal.invariant-loop-log
invariant-loop-log l = l.greatest ≡ fold max 0 (map (λ (log : LogBounds). log.speed) (take l.log-index l.fn.bounds))

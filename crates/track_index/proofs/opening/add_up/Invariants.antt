use Rattle.std.proofs.Common.{◌≡◌, ◌+◌, take}
use Rattle.std.specs.List.{sum_by}
use Rattle.snapshots.specs.Parts.{symbols_of}
use Rattle.track_index.proofs.opening.add_up.Given as goal

abbrev pub invariant-loop-period : goal.invariant-loop-period
invariant-loop-period l = l.left + sum_by symbols_of (take l.period-index l.periods) ≡ l.number

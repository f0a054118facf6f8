use Rattle.std.proofs.Common.{length}
use Rattle.track_types.proofs.Digits.{IsReadTo}
use Rattle.track_types.proofs.numeral.few_digits.Given as goal

abbrev pub invariant-loop-left : goal.invariant-loop-left
invariant-loop-left l = IsReadTo l.digits l.left l.value

abbrev pub decreases-loop-left : goal.decreases-loop-left
decreases-loop-left l = length l.left

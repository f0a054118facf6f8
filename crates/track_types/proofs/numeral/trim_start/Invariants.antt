use Rattle.std.proofs.Common.{◌≡◌, length}
use Rattle.track_types.specs.Numeral.{without_blanks_before}
use Rattle.track_types.proofs.numeral.trim_start.Given as goal

abbrev pub invariant-loop-left : goal.invariant-loop-left
invariant-loop-left l = without_blanks_before l.left ≡ without_blanks_before l.word

abbrev pub decreases-loop-left : goal.decreases-loop-left
decreases-loop-left l = length l.left

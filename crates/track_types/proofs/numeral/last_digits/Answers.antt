use Rattle.std.proofs.Common.{arith}
use Rattle.std.proofs.lemmas.Grind.{common_steps}
use Rattle.track_types.proofs.numeral.last_digits.Goals as goal

pub returns-in_err-front-in-len3-up-clause-none : goal.returns-in_err-front-in-len3-up-clause-none
returns-in_err-front-in-len3-up-clause-none c = grind (arith, common_steps)

pub returns-in-empty-clause-digits : goal.returns-in-empty-clause-digits
returns-in-empty-clause-digits c = grind (arith, common_steps)

pub returns-in-empty-clause-value : goal.returns-in-empty-clause-value
returns-in-empty-clause-value c = grind (arith, common_steps)

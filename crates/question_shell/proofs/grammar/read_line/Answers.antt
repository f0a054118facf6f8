use Rattle.std.proofs.Common.{arith}
use Rattle.std.proofs.lemmas.Grind.{common_steps}
use Rattle.question_shell.proofs.grammar.read_line.Goals as goal

pub returns-in_err-read_form-clause-value : goal.returns-in_err-read_form-clause-value
returns-in_err-read_form-clause-value c = grind (arith, common_steps)

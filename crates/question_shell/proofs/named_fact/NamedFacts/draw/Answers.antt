use Rattle.std.proofs.Common.{◌∙◌, sym}
use Rattle.question_shell.proofs.named_fact.NamedFacts.draw.Goals as goal

pub returns-in_err-fact-clause-none : goal.returns-in_err-fact-clause-none
returns-in_err-fact-clause-none c = rw c.from_residual.ensures (sym c.self.view_is ∙ c.in_err-fact.ensures.none)

use Rattle.std.proofs.Common.{◌∙◌, ap}
use Rattle.question_shell.specs.Kinds.{laid_question}
use Rattle.question_shell.specs.Lines.{words_of}
use Rattle.question_shell.specs.RegionWords.{layout_of}
use Rattle.question_shell.proofs.form.read_interval.Goals as goal

pub returns-clause-value : goal.returns-clause-value
returns-clause-value c =
    let layout = layout_of 4 (words_of c.in_ok-to.region.now) in
    rw (c.in_ok-from.ensures.ok, c.in_ok-to.ensures.ok)
    (c.read_region.ensures.value ∙ ap (λ asks. laid_question layout asks 4) c.read_window.ensures.value)

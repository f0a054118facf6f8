use Rattle.std.proofs.Common.{◌∙◌, ap}
use Rattle.question_shell.specs.Kinds.{laid_question}
use Rattle.question_shell.specs.Lines.{words_of}
use Rattle.question_shell.specs.RegionWords.{layout_of}
use Rattle.question_shell.proofs.form.read_slice.Goals as goal

pub returns-clause-value : goal.returns-clause-value
returns-clause-value c =
    let layout = layout_of 3 (words_of c.in_ok-instant.region.now) in
    rw c.in_ok-instant.ensures.ok
    (c.read_region.ensures.value ∙ ap (λ asks. laid_question layout asks 3) c.read_instant.ensures.value)

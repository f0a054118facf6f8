use Rattle.gract_top.proofs.TailAskingLemmas.{answers-joined}
use Rattle.gract_top.proofs.tail_asking.ask_opened.Goals as goal

pub returns-clause-answers : goal.returns-clause-answers
returns-clause-answers g c =
    answers-joined _ c.args.index.now _ _ _ c.args.tail c.view.result.tailed.now c.in-Ok.tailed
    c.view.ensures c.in-Ok.ensures.ok c.answer_walked.ensures.answers

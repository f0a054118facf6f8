use Rattle.gract_top.proofs.OutcomeLemmas.{AnswersSource-run, CountsTalk-run}
use Rattle.gract_top.proofs.answering.answer_with.Goals as goal

pub returns-clause-answers : goal.returns-clause-answers
returns-clause-answers g c =
    AnswersSource-run c.run.result _ _ _ _ c.run.new.desk.view (rw c.in-Ok.ensures at c.run.ensures.answers)

pub returns-clause-counts : goal.returns-clause-counts
returns-clause-counts g c = CountsTalk-run g.S.Source g.K.Sink c.run.result _ _ _ _ c.run.ensures.counts

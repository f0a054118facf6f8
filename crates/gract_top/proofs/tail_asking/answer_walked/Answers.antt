use Rattle.gract_top.proofs.tail_asking.answer_walked.Goals as goal

pub returns-clause-answers : goal.returns-clause-answers
returns-clause-answers g c = rw c.new.ensures at c.answer_with.ensures.answers

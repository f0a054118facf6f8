use Rattle.std.proofs.lemmas.Result.{err_from_is_err_and}
use Rattle.question_shell.specs.Desk.{held_of}
use Rattle.question_shell.proofs.DeskLemmas.{needs-refused}
use Rattle.question_shell.proofs.DrawingLemmas.{front-answer, takes-answer}
use Rattle.question_shell.proofs.answering.answer_question.Goals as goal

pub returns-in_err-say_answer-clause-told : goal.returns-in_err-say_answer-clause-told
returns-in_err-say_answer-clause-told g c =
    let gave = err_from_is_err_and c.from_residual-in_err-say_answer.result c.from_residual-in_err-say_answer.ensures.1 in
    rw (gave.1, gave.2)
    (front-answer c.in_ok-answer.ensures.ok (g.K.Sink.said c.args.sink.now) c.args.text.now (g.K.Sink.said c.say_answer.new.sink)
    c.say_answer.new.text c.say_answer.new.desk.view c.say_answer.new.steps c.in_err-say_answer.ensures.told
    c.in_err-say_answer.ensures.reads)

pub returns-clause-told : goal.returns-clause-told
returns-clause-told g c =
    takes-answer c.in_ok-answer.ensures.ok (g.K.Sink.said c.args.sink.now) c.args.text.now (g.K.Sink.said c.say_answer.new.sink)
    c.say_answer.new.text c.say_answer.new.desk.view c.say_answer.new.steps c.in_ok-say_answer.ensures.told
    c.in_ok-say_answer.ensures.desk c.in_ok-say_answer.ensures.reads

pub returns-in_err-answer-clause-needs : goal.returns-in_err-answer-clause-needs
returns-in_err-answer-clause-needs g c =
    rw c.in_err-answer.ensures.desk
    (needs-refused g.A.Walk.Lazy.needs (g.A.Answerer.needs c.args.answerer) (held_of c.args.desk.now.view)
    c.args.desk.now.walks c.args.question.now c.in_err-answer.ensures.takes)

use Rattle.std.proofs.Common.{List, ℕ, Some, Ok, Err, subst}
use Rattle.std.proofs.lemmas.Result.{err_from_is_err_and}
use Rattle.question_shell.specs.Session.{meaning_by}
use Rattle.question_shell.specs.Turns.{AnswerTold, moment}
use Rattle.question_shell.proofs.TurnLemmas.{alone-cut, alone-err, alone-said}
use Rattle.question_shell.proofs.answering.say_reply.Goals as goal

pub returns-in_err-answer_question-clause-told : goal.returns-in_err-answer_question-clause-told
returns-in_err-answer_question-clause-told g c =
    let exit = err_from_is_err_and c.from_residual.result c.from_residual.ensures.1 in
    let said = c.answer_question in
    let meaning = meaning_by g.A.Answerer c.args.answerer in
    let refused = c.in_err-answer_question.field-0.0 in
    let now = moment (g.K.Sink.said said.new.sink) said.new.text said.new.desk.view said.new.steps in
    let Told : List ℕ → Type 0 = λ text. AnswerTold meaning
    (moment (g.K.Sink.said c.args.sink.now) text c.args.desk.now.view c.args.steps.now) now (Ok (Some c.args.question))
    (Err refused) in
    rw (exit.1, exit.2)
    (alone-err meaning (g.K.Sink.said c.args.sink.now) (g.K.Sink.said said.new.sink) said.new.text c.args.desk.now.view
    said.new.desk.view c.args.steps.now said.new.steps (Ok (Some c.args.question)) refused
    (subst Told c.new-text.ensures c.in_err-answer_question.ensures.told))

pub returns-in_err-say-clause-told : goal.returns-in_err-say-clause-told
returns-in_err-say-clause-told g c =
    let gave = err_from_is_err_and c.from_residual-in_err-say.result c.from_residual-in_err-say.ensures.1 in
    let said = c.answer_question in
    let meaning = meaning_by g.A.Answerer c.args.answerer in
    rw (gave.1, gave.2)
    (alone-cut meaning (g.K.Sink.said c.args.sink.now) (g.K.Sink.said said.new.sink) said.new.text c.args.desk.now.view
    said.new.desk.view c.args.steps.now said.new.steps (Ok (Some c.args.question)) (g.K.Sink.said c.say.new.sink)
    (rw c.new-text.ensures at c.in_ok-answer_question.ensures.told) c.in_err-say.ensures.told)

pub returns-clause-told : goal.returns-clause-told
returns-clause-told g c =
    let said = c.answer_question in
    let meaning = meaning_by g.A.Answerer c.args.answerer in
    alone-said meaning (g.K.Sink.said c.args.sink.now) (g.K.Sink.said said.new.sink) said.new.text c.args.desk.now.view
    said.new.desk.view c.args.steps.now said.new.steps (Ok (Some c.args.question)) (g.K.Sink.said c.say.new.sink)
    (rw c.new-text.ensures at c.in_ok-answer_question.ensures.told) c.in_ok-say.ensures.told

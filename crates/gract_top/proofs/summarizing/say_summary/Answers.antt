use Rattle.std.proofs.Common.{◌≡◌, [], List, OnErr, OnOk, Ok, Some, Err, ap, arith, subst, refl, None}
use Rattle.std.proofs.lemmas.Result.{on_err_weaker, on_ok_weaker}
use Rattle.host_ports.specs.Histories.{Gains}
use Rattle.std.specs.List.{sum_by}
use Rattle.track_types.specs.declared.question.Question.{Question}
use Rattle.track_types.specs.declared.question.Question.TheVariants as question
use Rattle.question_shell.specs.Desk.{DeskState, budget_of, empty_desk}
use Rattle.question_shell.specs.Reply.{listed}
use Rattle.question_shell.specs.Session.{Meaning, meaning_by}
use Rattle.question_shell.specs.Turns.{AnswerTold, moment}
use Rattle.question_shell.proofs.SaysLemmas.{Gains-append, Gains-says, on_err_always}
use Rattle.gract_top.specs.Sampling.{SaysFront}
use Rattle.gract_top.specs.Summary.{counted_questions, counts_of, found_by}
use Rattle.gract_top.proofs.SummaryLemmas.{SaysFront-after, SaysFront-more, info-front}
use Rattle.gract_top.proofs.summarizing.say_summary.Given.{Over}
use Rattle.gract_top.proofs.summarizing.say_summary.Goals as goal
use Rattle.gract_top.proofs.summarizing.say_summary.Goals.{After-say_reply}

-- what the answerer means
abbrev meaning : (g : Over) (c : After-say_reply g) → Meaning
meaning g c = meaning_by g.A.Answerer c.args.answerer

pub returns-in_err-say_reply-clause-err : goal.returns-in_err-say_reply-clause-err
returns-in_err-say_reply-clause-err g c =
    let place = (goal.at.returns-in_err-say_reply-clause-err g c).After-say_reply in
    let of = meaning g place in
    let refused = c.in_err-say_reply.field-0.0 in
    let now = moment (g.K.Sink.said c.say_reply.new.sink) [] c.say_reply.new.desk.view c.say_reply.new.steps in
    let Told : DeskState _ → Type 0 = λ desk.
    AnswerTold of (moment (g.K.Sink.said c.args.sink.now) [] desk.view c.args.steps.now) now
    (Ok (Some question.Info)) (Err refused) in
    let front = info-front of (g.K.Sink.said c.args.sink.now) (g.K.Sink.said c.say_reply.new.sink)
    c.say_reply.new.desk.view c.args.steps.now c.say_reply.new.steps refused
    (subst Told c.in-Ok.ensures c.in_err-say_reply.ensures.told) in
    on_err_always c.from_residual.result
    (SaysFront-more (g.K.Sink.said c.args.sink.now) (g.K.Sink.said c.say_reply.new.sink)
    (listed (found_by of.chart of.facts question.Info) None) (counts_of of.chart of.facts (counted_questions c.args.instants))
    front.0)

pub returns-in_err-say_reply-clause-cost : goal.returns-in_err-say_reply-clause-cost
returns-in_err-say_reply-clause-cost g c =
    let place = (goal.at.returns-in_err-say_reply-clause-cost g c).After-say_reply in
    let of = meaning g place in
    let refused = c.in_err-say_reply.field-0.0 in
    let now = moment (g.K.Sink.said c.say_reply.new.sink) [] c.say_reply.new.desk.view c.say_reply.new.steps in
    let Told : DeskState _ → Type 0 = λ desk.
    AnswerTold of (moment (g.K.Sink.said c.args.sink.now) [] desk.view c.args.steps.now) now
    (Ok (Some question.Info)) (Err refused) in
    let front = info-front of (g.K.Sink.said c.args.sink.now) (g.K.Sink.said c.say_reply.new.sink)
    c.say_reply.new.desk.view c.args.steps.now c.say_reply.new.steps refused
    (subst Told c.in-Ok.ensures c.in_err-say_reply.ensures.told) in
    omega (arith, front.1)

pub say_counts-requires-clause-empty : goal.say_counts-requires-clause-empty
say_counts-requires-clause-empty g c = rw c.in-Ok.ensures at c.in_ok-say_reply.ensures.told.desk

pub returns-clause-ok : goal.returns-clause-ok
returns-clause-ok g c =
    let of = meaning_by g.A.Answerer c.args.answerer in
    let before = g.K.Sink.said c.args.sink.now in
    let between = g.K.Sink.said c.say_reply.new.sink in
    let now = g.K.Sink.said c.say_counts.new.sink in
    let info = listed (found_by of.chart of.facts question.Info) None in
    let first : Gains before between info = Gains-says before between info c.in_ok-say_reply.ensures.told.said in
    let Says : List Question → Type 0 = λ asked. OnOk c.say_counts.result (Gains between now (counts_of of.chart of.facts asked)) in
    on_ok_weaker c.say_counts.result
    (Gains-append before between now info (counts_of of.chart of.facts (counted_questions c.args.instants)) first)
    (subst Says c.counted_questions-questions.ensures.value c.say_counts.ensures.ok)

pub returns-clause-err : goal.returns-clause-err
returns-clause-err g c =
    let of = meaning_by g.A.Answerer c.args.answerer in
    let before = g.K.Sink.said c.args.sink.now in
    let between = g.K.Sink.said c.say_reply.new.sink in
    let now = g.K.Sink.said c.say_counts.new.sink in
    let info = listed (found_by of.chart of.facts question.Info) None in
    let first : Gains before between info = Gains-says before between info c.in_ok-say_reply.ensures.told.said in
    let Says : List Question → Type 0 = λ asked. OnErr c.say_counts.result (SaysFront between now (counts_of of.chart of.facts asked)) in
    on_err_weaker c.say_counts.result
    (SaysFront-after before between now info (counts_of of.chart of.facts (counted_questions c.args.instants)) first)
    (subst Says c.counted_questions-questions.ensures.value c.say_counts.ensures.err)

pub returns-clause-cost : goal.returns-clause-cost
returns-clause-cost g c =
    let cost = g.A.Answerer.cost c.args.answerer in
    let told = rw c.in-Ok.ensures at c.in_ok-say_reply.ensures.told.reads in
    let none : budget_of empty_desk ≡ 0 = refl in
    let same : sum_by cost c.counted_questions-questions.result ≡ sum_by cost (counted_questions c.args.instants) =
    ap (sum_by cost) c.counted_questions-questions.ensures.value in
    omega (arith, c.say_counts.ensures.cost, told, none, same)

use Rattle.std.proofs.Common.{◌≡◌, ◌<◌, refl, Result, Ok, Err}
use Rattle.std.specs.Prelude.{OnErr}
use Rattle.track_types.specs.Near.{IsAsked}
use Rattle.track_types.specs.declared.question.Question.TheVariants as question
use Rattle.question_shell.specs.Desk.{slot_needs}
use Rattle.question_shell.proofs.CountLemmas.{asked_kept}
use Rattle.question_shell.proofs.asking.ask.Goals as goal

pub returns-in-Hold-clause-ok : goal.returns-in-Hold-clause-ok
returns-in-Hold-clause-ok g c =
    let arm = c.in-Hold in
    let asked : c.args.question.now ≡ question.Hold arm.slot arm.object arm.from arm.to = arm.is in
    let near : (arm.slot < 16) × IsAsked arm.from × IsAsked arm.to = rw asked at c.requires.asked in
    let held = c.hold.ensures.ok c.args.steps.now in
    rw asked (rw (asked_kept arm.from near.1, asked_kept arm.to near.2) at held)

pub returns-in-More-clause-ok : goal.returns-in-More-clause-ok
returns-in-More-clause-ok g c =
    let arm = c.in-More in
    let asked : c.args.question.now ≡ question.More arm.slot arm.count = arm.is in
    rw asked (c.more.ensures.value _ c.args.steps.now)

pub returns-in-Free-clause-ok : goal.returns-in-Free-clause-ok
returns-in-Free-clause-ok g c =
    let arm = c.in-Free in
    let asked : c.args.question.now ≡ question.Free arm.slot = arm.is in
    rw asked (c.free.ensures.value _ c.args.steps.now)

pub returns-in-Free-clause-needs : goal.returns-in-Free-clause-needs
returns-in-Free-clause-needs g c =
    let arm = c.in-Free in
    let asked : c.args.question.now ≡ question.Free arm.slot = arm.is in
    rw asked (c.free.ensures.needs (g.A.Answerer.needs c.args.answerer))

pub ask_chart-requires-clause-may : goal.ask_chart-requires-clause-may
ask_chart-requires-clause-may g c = (slot_needs g.A.Walk.Lazy.needs c.args.desk.now.walks, c.requires.may)

-- the desk is not touched
same : {T E D : Type 0} (result : Result T E) (desk : D) → OnErr result (desk ≡ desk)
same (Ok value) desk = tt
same (Err fault) desk = refl

pub returns-in_default : goal.returns-in_default
returns-in_default g c = record {
  ok = c.ask_chart.ensures.ok c.args.desk.now.view;
  takes = c.ask_chart.ensures.takes c.args.desk.now.view;
  desk = same c.ask_chart.result c.args.desk.now;
  reads = c.ask_chart.ensures.reads c.args.desk.now.view;
  needs = c.ask_chart.ensures.needs c.args.desk.now.walks;
}

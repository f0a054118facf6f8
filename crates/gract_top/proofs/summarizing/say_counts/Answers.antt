use Rattle.std.proofs.Common.{◌≡◌, ◌∙◌, ◌∷◌, ◌+◌, ◌≤◌, ℕ, List, ap, length, get_or, refl, drop, arith, subst, sym}
use Rattle.std.proofs.lemmas.List.{drop_all, drop_more}
use Rattle.std.specs.List.{sum_by}
use Rattle.track_types.specs.declared.question.Question.{Question}
use Rattle.question_shell.specs.Desk.{budget_of, held_of}
use Rattle.question_shell.specs.Items.{items_of}
use Rattle.question_shell.specs.Reply.{ok_line}
use Rattle.gract_top.specs.Sampling.{speech}
use Rattle.gract_top.specs.Summary.{IsSlotless, count_line}
use Rattle.gract_top.proofs.SummaryLemmas.{IsCounting-begun, IsCounting-cut, IsCounting-done, IsCounting-next, IsCounting-read, counted-cost, counted-desk}
use Rattle.gract_top.proofs.summarizing.say_counts.Given.{Over}
use Rattle.gract_top.proofs.summarizing.say_counts.Goals as goal
use Rattle.gract_top.proofs.summarizing.say_counts.Goals.{After-count_found}

-- the question of a turn is counted, and the first of those that are left
record Drawn (all : List Question) (index : ℕ) (asked : Question) : Type 0 where
  counted : IsSlotless asked
  more : drop index all ≡ asked ∷ drop (index + 1) all

drawn : (g : Over) (c : After-count_found g) → Drawn c.args.questions.now c.loop-question.question-index c.question-item.result
drawn g c =
    let all = c.args.questions.now in
    let index = c.loop-question.question-index in
    let asked = c.question-item.result in
    let same : get_or all index asked ≡ asked = sym c.question-item.is in
    record {
      counted = subst IsSlotless same (c.requires.counted index asked c.loop-question-test.true);
      more = drop_more all index asked c.loop-question-test.true ∙ ap (λ first. first ∷ drop (index + 1) all) same;
    }

-- what one question more reads
read : (g : Over) (c : After-count_found g) →
    c.count_found.new.steps + budget_of c.count_found.new.desk.view
    ≤ c.args.steps.now + budget_of c.args.desk.now.view
    + sum_by (g.A.Answerer.cost c.args.answerer) c.args.questions.now
read g c =
    let cost = g.A.Answerer.cost c.args.answerer in
    let all = c.args.questions.now in
    let index = c.loop-question.question-index in
    let asked = c.question-item.result in
    let turn = drawn g c in
    IsCounting-read (g.A.Answerer.chart c.args.answerer) (g.A.Answerer.facts c.args.answerer) cost all (drop index all)
    (drop (index + 1) all) asked
    (speech (g.K.Sink.said c.args.sink.now) (c.args.steps.now + budget_of c.args.desk.now.view))
    (speech (g.K.Sink.said c.loop-question.sink) (c.loop-question.steps + budget_of c.loop-question.desk.view)) _
    c.loop-question.invariant.counting turn.more
    (omega (
      arith,
      c.count_found.ensures.cost,
      counted-cost cost (held_of c.loop-question.desk.view) asked turn.counted,
    ))

pub returns-in_default-clause-cost : goal.returns-in_default-clause-cost
returns-in_default-clause-cost g c = read g (goal.at.returns-in_default-clause-cost g c).After-count_found

pub returns-in_default-say_count-clause-cost : goal.returns-in_default-say_count-clause-cost
returns-in_default-say_count-clause-cost g c = read g (goal.at.returns-in_default-say_count-clause-cost g c).After-count_found

pub loop-question-init : goal.loop-question-init
loop-question-init g c = record {
  counting = IsCounting-begun (g.A.Answerer.chart c.args.answerer) (g.A.Answerer.facts c.args.answerer)
      (g.A.Answerer.cost c.args.answerer) c.args.questions.now
      (speech (g.K.Sink.said c.args.sink.now) (c.args.steps.now + budget_of c.args.desk.now.view));
  empty = c.requires.empty;
  faults = refl;
}

pub loop-question-preserved : goal.loop-question-preserved
loop-question-preserved g c =
    let chart = g.A.Answerer.chart c.args.answerer in
    let facts = g.A.Answerer.facts c.args.answerer in
    let cost = g.A.Answerer.cost c.args.answerer in
    let asked = c.question-item.result in
    let turn = drawn g (goal.at.loop-question-preserved g c).After-count_found in
    let held = held_of c.loop-question.desk.view in
    let line : count_line chart facts asked ≡ ok_line c.in-Ok.count =
    ap ok_line (sym (c.in-Ok.ensures.ok ∙ ap (λ desk. length (items_of chart facts desk asked)) c.loop-question.invariant.empty)) in
    record {
      counting = IsCounting-next chart facts cost c.in-Ok.count c.loop-question.invariant.counting
          turn.more line
          (speech (g.K.Sink.said c.say_count.new.sink)
          (c.count_found.new.steps + budget_of c.count_found.new.desk.view))
          (omega (arith, c.in-Ok.ensures.cost, counted-cost cost held asked turn.counted)) c.in-Ok-say_count.ensures.ok;
      empty = c.in-Ok.ensures.desk ∙ (counted-desk chart held asked turn.counted ∙ c.loop-question.invariant.empty);
      faults = c.in-Ok-say_count.ensures.faults.untouched (λ failed. absurd (cc)) ∙ c.loop-question.invariant.faults;
    }

pub returns-in_default-say_count-clause-err : goal.returns-in_default-say_count-clause-err
returns-in_default-say_count-clause-err g c =
    let chart = g.A.Answerer.chart c.args.answerer in
    let facts = g.A.Answerer.facts c.args.answerer in
    let asked = c.question-item.result in
    let turn = drawn g (goal.at.returns-in_default-say_count-clause-err g c).After-count_found in
    let line : count_line chart facts asked ≡ ok_line c.in-Ok.count =
    ap ok_line (sym (c.in-Ok.ensures.ok ∙ ap (λ desk. length (items_of chart facts desk asked)) c.loop-question.invariant.empty)) in
    IsCounting-cut chart facts (g.A.Answerer.cost c.args.answerer) c.in-Ok.count
    c.loop-question.invariant.counting turn.more line
    (g.K.Sink.said c.say_count.new.sink) c.in_default-say_count.ensures.err

pub returns-clause-ok : goal.returns-clause-ok
returns-clause-ok g c =
    let all = c.args.questions.now in
    let index = c.loop-question.question-index in
    IsCounting-done (g.A.Answerer.chart c.args.answerer) (g.A.Answerer.facts c.args.answerer)
    (g.A.Answerer.cost c.args.answerer) all (drop index all)
    (speech (g.K.Sink.said c.args.sink.now) (c.args.steps.now + budget_of c.args.desk.now.view))
    (speech (g.K.Sink.said c.loop-question.sink) (c.loop-question.steps + budget_of c.loop-question.desk.view))
    c.loop-question.invariant.counting
    (drop_all index all (omega (arith, c.loop-question-test.false)))

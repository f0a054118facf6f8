use Rattle.std.proofs.Common.{◌≡◌, ◌+◌, drop}
use Rattle.question_shell.specs.Desk.{budget_of, empty_desk, held_of}
use Rattle.gract_top.specs.Sampling.{speech}
use Rattle.gract_top.proofs.SummaryLemmas.{IsCounting}
use Rattle.gract_top.proofs.summarizing.say_counts.Given as goal

abbrev pub invariant-loop-question : goal.invariant-loop-question
invariant-loop-question g l = record {
  counting : IsCounting (g.A.Answerer.chart l.answerer) (g.A.Answerer.facts l.answerer) (g.A.Answerer.cost l.answerer)
      l.fn.questions (drop l.question-index l.questions)
      (speech (g.K.Sink.said l.fn.sink) (l.fn.steps + budget_of l.fn.desk.view))
      (speech (g.K.Sink.said l.sink) (l.steps + budget_of l.desk.view));
  empty : held_of l.desk.view ≡ held_of empty_desk;
  faults : g.K.Sink.faults l.sink ≡ g.K.Sink.faults l.fn.sink;
}

use Rattle.std.proofs.Common.{◌≡◌, ℕ, ◌+◌, ◌-◌, ◌≤◌, List, [], length, take}
use Rattle.track_types.specs.Limits.{limit_of}
use Rattle.track_types.specs.declared.limit.LimitKind.TheVariants.{Questions}
use Rattle.question_shell.specs.Session.{Came, meaning_by, run_by}
use Rattle.question_shell.specs.Turns.{Heard, moment}
use Rattle.question_shell.proofs.shell.run.Given as goal

abbrev pub invariant-pieces : goal.invariant-pieces
invariant-pieces g l = record {
  bytes : List ℕ;
  came : Came
      (run_by g.S.Source g.K.Sink l.fn.source l.fn.sink l.fn.desk.view l.fn.steps)
      (run_by g.S.Source g.K.Sink l.source l.sink l.desk.view l.steps) bytes;
  count : l.taken ≡ length bytes;
  within : l.taken ≤ limit_of Questions + 1;
  heard : Heard
      (meaning_by g.A.Answerer l.answerer)
      (moment (g.K.Sink.said l.fn.sink) [] l.fn.desk.view l.fn.steps)
      (moment (g.K.Sink.said l.sink) [] l.desk.view l.steps)
      (take (limit_of Questions) bytes) l.talk.line;
  text : l.talk.text ≡ [];
  listen_faults : g.S.Source.faults l.source ≡ g.S.Source.faults l.fn.source;
  say_faults : g.K.Sink.faults l.sink ≡ g.K.Sink.faults l.fn.sink;
}

abbrev pub decreases-pieces : goal.decreases-pieces
decreases-pieces g l = limit_of Questions + 1 - l.taken

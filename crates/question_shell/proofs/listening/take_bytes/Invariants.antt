use Rattle.std.proofs.Common.{◌≡◌, ◌++◌, ℕ, List, length}
use Rattle.question_shell.specs.Session.{meaning_by}
use Rattle.question_shell.specs.Turns.{Heard, Moment, moment}
use Rattle.question_shell.proofs.listening.take_bytes.Given as goal

abbrev pub invariant-loop-line : goal.invariant-loop-line
invariant-loop-line g l = record {
  front : List ℕ;
  whole : l.bytes ≡ front ++ l.left;
  faults : g.K.Sink.faults l.sink ≡ g.K.Sink.faults l.fn.sink;
  heard : (start : Moment) (came : List ℕ) →
      let meaning = meaning_by g.A.Answerer l.answerer in
      Heard meaning start (moment (g.K.Sink.said l.fn.sink) l.fn.talk.text l.fn.desk.view l.fn.steps) came
      l.fn.talk.line →
      Heard meaning start (moment (g.K.Sink.said l.sink) l.talk.text l.desk.view l.steps) (came ++ front) l.talk.line;
}

abbrev pub decreases-loop-line : goal.decreases-loop-line
decreases-loop-line g l = length l.left

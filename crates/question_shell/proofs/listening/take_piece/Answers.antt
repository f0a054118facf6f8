use Rattle.std.proofs.Common.{◌++◌, Err, ◌≡◌, ◌∙◌, arith}
use Rattle.question_shell.specs.Session.{meaning_by}
use Rattle.question_shell.specs.Turns.{moment}
use Rattle.question_shell.specs.declared.turn_fault.TurnFault.TheVariants as fault
use Rattle.question_shell.proofs.SessionLemmas.{rest-bytes, rose-after}
use Rattle.question_shell.proofs.listening.take_piece.Goals as goal

pub returns-clause-told : goal.returns-clause-told
returns-clause-told g c start came heard =
    let meaning = meaning_by g.A.Answerer c.args.answerer in
    let took = c.take_bytes-answered in
    let between = moment (g.K.Sink.said took.new.sink) took.new.talk.text took.new.desk.view took.new.steps in
    rest-bytes meaning start between (g.K.Sink.said c.say_rest.new.sink) (came ++ c.args.piece.now) took.new.talk.line
    took.result c.say_rest.result (took.ensures.told start came heard) c.say_rest.ensures.told

pub returns-clause-faults : goal.returns-clause-faults
returns-clause-faults g c =
    let took = c.take_bytes-answered in
    let rest = c.say_rest.ensures in
    record {
      cause = λ failed. rose-after (g.K.Sink.faults c.args.sink.now) (g.K.Sink.faults took.new.sink)
          (g.K.Sink.faults c.say_rest.new.sink) (took.result ≡ Err fault.Say) took.ensures.faults.faults
          took.ensures.faults.cause (rest.cause failed);
      untouched = λ other. rest.untouched other ∙ took.ensures.faults.untouched (λ failed. other (rest.passed failed));
      faults = omega (arith, rest.faults, took.ensures.faults.faults);
    }

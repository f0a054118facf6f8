use Rattle.std.proofs.Common.{Err, ◌≡◌, ◌∙◌, arith}
use Rattle.question_shell.specs.Lines.{input_lines, unended_line}
use Rattle.question_shell.specs.Session.{meaning_by}
use Rattle.question_shell.specs.Turns.{moment}
use Rattle.question_shell.specs.declared.turn_fault.TurnFault.TheVariants as fault
use Rattle.question_shell.proofs.SessionLemmas.{rest-lines, rose-after, told-end}
use Rattle.question_shell.proofs.listening.take_end.Goals as goal

pub returns-clause-told : goal.returns-clause-told
returns-clause-told g c start came heard =
    let meaning = meaning_by g.A.Answerer c.args.answerer in
    let said = c.take_line-answered in
    let here = moment (g.K.Sink.said c.args.sink.now) c.args.talk.now.text c.args.desk.now.view c.args.steps.now in
    let between = moment (g.K.Sink.said said.new.sink) said.new.talk.text said.new.desk.view said.new.steps in
    let told = said.ensures.told (unended_line came) heard.kept in
    rest-lines meaning start between (g.K.Sink.said c.say_rest.new.sink) (input_lines came) said.result c.say_rest.result
    (told-end meaning start here between came c.args.talk.now.line said.result told heard) c.say_rest.ensures.told

pub returns-clause-faults : goal.returns-clause-faults
returns-clause-faults g c =
    let said = c.take_line-answered in
    let rest = c.say_rest.ensures in
    record {
      cause = λ failed. rose-after (g.K.Sink.faults c.args.sink.now) (g.K.Sink.faults said.new.sink)
          (g.K.Sink.faults c.say_rest.new.sink) (said.result ≡ Err fault.Say) said.ensures.faults.faults
          said.ensures.faults.cause (rest.cause failed);
      untouched = λ other. rest.untouched other ∙ said.ensures.faults.untouched (λ failed. other (rest.passed failed));
      faults = omega (arith, rest.faults, said.ensures.faults.faults);
    }

use Rattle.std.proofs.Common.{[]}
use Rattle.std.proofs.lemmas.Result.{err_from_is_err_and}
use Rattle.question_shell.specs.Says.{voice}
use Rattle.question_shell.proofs.SaysLemmas.{cuts-more}
use Rattle.question_shell.proofs.held_text.HeldText.put.Goals as goal

pub returns-in_err-say-clause-told : goal.returns-in_err-say-clause-told
returns-in_err-say-clause-told g c =
    let exit = err_from_is_err_and c.from_residual.result c.from_residual.ensures.1 in
    rw exit.1
    (cuts-more (voice (g.K.Sink.said c.args.sink.now) c.args.self.now) (g.K.Sink.said c.say.new.sink) []
    c.args.line.now c.in_err-say.ensures.told)

use Rattle.std.proofs.lemmas.Result.{err_from_is_err_and}
use Rattle.question_shell.proofs.SaysLemmas.{cuts-front}
use Rattle.question_shell.proofs.held_text.HeldText.say.Goals as goal

pub returns-in_err-say-clause-told : goal.returns-in_err-say-clause-told
returns-in_err-say-clause-told g c =
    let exit = err_from_is_err_and c.from_residual.result c.from_residual.ensures.1 in
    rw (exit.1, ← c.self.view_is)
    (cuts-front (g.K.Sink.said c.args.sink.now) (g.K.Sink.said c.say.new.self) c.self.inside.room
    c.in_err-say.field-0.0.sent (rw (← c.as_bytes.ensures) c.in_err-say.ensures.cut))

use Rattle.std.proofs.Common.{◌∙◌, ◌∷◌, ap, arith}
use Rattle.std.proofs.lemmas.List.{drop-set, drop_all}
use Rattle.question_shell.proofs.reply_line.ReplyLine.begin.Goals as goal

pub returns : goal.returns
returns c =
    let bytes = c.self.inside.bytes in
    drop-set bytes 111 10 (omega (arith, c.self.invariant.1))
    ∙ ap (λ rest. 10 ∷ rest) (drop_all 112 bytes (omega (arith, c.self.invariant.1)))

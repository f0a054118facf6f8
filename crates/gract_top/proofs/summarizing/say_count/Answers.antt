use Rattle.std.proofs.Common.{◌≡◌, List, ℕ, OnErr, subst, rules}
use Rattle.question_shell.specs.Reply.{ok_line}
use Rattle.gract_top.specs.Sampling.{SaysFront}
use Rattle.gract_top.proofs.SummaryLemmas.{SaysFront-cut}
use Rattle.gract_top.proofs.summarizing.say_count.Goals as goal

pub returns-clause-err : goal.returns-clause-err
returns-clause-err g c =
    let before = g.K.Sink.said c.args.sink.now in
    let now = g.K.Sink.said c.say.new.self in
    let piece : c.as_bytes.result.now ≡ ok_line c.args.count = search rules in
    subst (λ (text : List ℕ). OnErr c.say.result (SaysFront before now text)) piece
    (SaysFront-cut c.say.result before now c.as_bytes.result.now c.say.ensures.cut)

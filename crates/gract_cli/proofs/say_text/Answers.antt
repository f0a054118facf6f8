use Rattle.std.proofs.Common.{◌≡◌, List, OnErr, ℕ, rules, subst}
use Rattle.gract_top.specs.Sampling.{SaysFront}
use Rattle.gract_top.proofs.SummaryLemmas.{SaysFront-cut}
use Rattle.gract_cli.proofs.say_text.Goals as goal

pub returns-in-Err-clause-told : goal.returns-in-Err-clause-told
returns-in-Err-clause-told g c =
    let before = g.K.Sink.said c.args.sink.now in
    let now = g.K.Sink.said c.say.new.self in
    let piece = c.as_bytes.result.now in
    let text : piece ≡ c.args.text.now = search rules in
    let front : OnErr c.say.result (SaysFront before now piece) =
    SaysFront-cut c.say.result before now piece c.say.ensures.cut in
    subst (λ (said : List ℕ). SaysFront before now said) text (rw c.in-Err.is at front)

use Rattle.std.proofs.Common.{◌∙◌, arith, ap}
use Rattle.std.specs.Int.{w64, from_le_bytes}
use Rattle.bit_stream.proofs.BytesLemmas.{first_word-whole, first_word-short}
use Rattle.bit_stream.proofs.word.first_word.Goals as goal

pub returns-then-bytes-lt8 : goal.returns-then-bytes-lt8
returns-then-bytes-lt8 c = c.short_word.ensures ∙ first_word-short c.args.bytes.now (omega (arith, c.if-bytes-lt8.true))

pub returns : goal.returns
returns c =
    c.whole_word.ensures ∙ ap (from_le_bytes w64) c.split_at.ensures.front
    ∙ first_word-whole c.args.bytes.now (λ i. omega (arith, c.type_inv.bytes i)) (omega (arith, c.if-bytes-lt8.false))

use Rattle.std.proofs.Common.{◌≡◌, ◌*◌, ◌%◌, ◌^◌, ◌+◌, get_or, take, ap, sym, ◌∙◌, arith}
use Rattle.packed_bits.specs.Bits.{number_of}
use Rattle.bit_stream.specs.Bytes.{bits_in}
use Rattle.bit_stream.proofs.BytesLemmas.{IsBytes, number_of-no_bits, byte-fits, byte-step}
use Rattle.bit_stream.proofs.word.short_word.Goals as goal

pub loop-i-init : goal.loop-i-init
loop-i-init c = sym number_of-no_bits

-- the sum is the number of one more byte
step : (c : goal.After-from) → c.loop-i.word + c.from.result * 2 ^ (8 * c.loop-i.i) % 2 ^ 64
    ≡ number_of (bits_in (take (c.loop-i.i + 1) c.args.bytes.now))
step c =
    let fits : IsBytes c.args.bytes.now = λ i. omega (arith, c.type_inv.bytes i) in
    ap (λ n. c.loop-i.word + n * 2 ^ (8 * c.loop-i.i) % 2 ^ 64) c.from.ensures
    ∙ ap (λ n. n + get_or c.args.bytes.now c.loop-i.i 0 * 2 ^ (8 * c.loop-i.i) % 2 ^ 64) c.loop-i.invariant
    ∙ byte-step c.args.bytes.now fits c.loop-i.i c.loop-i-test.true c.requires

pub overflow_add-word : goal.overflow_add-word
overflow_add-word c =
    let fits : IsBytes c.args.bytes.now = λ i. omega (arith, c.type_inv.bytes i) in
    omega (arith, step c, byte-fits c.args.bytes.now fits c.loop-i.i c.loop-i-test.true c.requires)

pub loop-i-preserved : goal.loop-i-preserved
loop-i-preserved c = step c

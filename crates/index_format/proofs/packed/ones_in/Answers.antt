use Rattle.std.proofs.Common.{◌≡◌, ◌*◌, ◌+◌, take, ap, sym, ◌∙◌, arith}
use Rattle.std.specs.Int.RustNames.{count_ones}
use Rattle.packed_bits.specs.Bits.{ones_of, window_of}
use Rattle.packed_bits.proofs.OnesLemmas.{ones_of-nil}
use Rattle.index_format.proofs.BitLemmas.{ones_of-word, ones_of-take-le}
use Rattle.index_format.proofs.packed.ones_in.Goals as goal

pub loop-i-init : goal.loop-i-init
loop-i-init c = sym ones_of-nil

-- the sum is the number of ones of one word more
step : (c : goal.After-word) → c.loop-i.ones + count_ones c.word.result ≡ ones_of (take (64 * (c.loop-i.i + 1)) c.args.bits.now)
step c =
    ap (λ n. c.loop-i.ones + count_ones n) c.word.ensures
    ∙ ap (λ n. n + count_ones (window_of c.args.bits.now (64 * c.loop-i.i) 64)) c.loop-i.invariant
    ∙ sym (ones_of-word c.args.bits.now c.loop-i.i)

pub overflow_add-ones : goal.overflow_add-ones
overflow_add-ones c =
    omega (arith, step c, ones_of-take-le c.args.bits.now (64 * (c.loop-i.i + 1)), c.len.ensures, c.len.type_inv)

pub loop-i-preserved : goal.loop-i-preserved
loop-i-preserved c = step c

use Rattle.std.proofs.Common.{◌≡◌, ◌%◌, ltb, length, take, sym, ap, ◌∙◌, arith}
use Rattle.packed_bits.specs.Bits.{ones_of}
use Rattle.bit_stream.proofs.ReaderLemmas.{left_in, spare-left, spare-none}
use Rattle.bit_stream.proofs.reader.has_spare.Goals as goal

pub returns-then-used-gt0 : goal.returns-then-used-gt0
returns-then-used-gt0 c =
    spare-left c.args.used c.args.bytes.now c.if-used-gt0.true c.requires (omega (arith, c.type_inv.bytes 0))

pub returns-else-used-gt0 : goal.returns-else-used-gt0
returns-else-used-gt0 c =
    let bytes = c.args.bytes.now in
    let none : c.args.used ≡ 0 = omega (arith, c.if-used-gt0.false) in
    ap (λ used. ltb 0 used) none
    ∙ sym (ap (λ used. ltb 0 (ones_of (take (length (left_in used bytes) % 8) (left_in used bytes)))) none ∙ spare-none bytes)

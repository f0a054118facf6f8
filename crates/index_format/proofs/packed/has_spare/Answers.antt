use Rattle.std.proofs.Common.{◌≡◌, ◌%◌, ltb, drop, ap, sym, ◌∙◌, arith}
use Rattle.packed_bits.specs.Bits.{ones_of}
use Rattle.packed_bits.proofs.OnesLemmas.{ones_of-nil}
use Rattle.index_format.specs.Spelling.{bits_in}
use Rattle.index_format.proofs.BitLemmas.{any_one, spare-last, spare-full}
use Rattle.index_format.proofs.packed.has_spare.Goals as goal

pub returns-then-used-gt0-clause-exact : goal.returns-then-used-gt0-clause-exact
returns-then-used-gt0-clause-exact c =
    let last = spare-last c.args.count c.args.bytes.now (λ i. omega (arith, c.type_inv.bytes i)) c.requires c.if-used-gt0.true in
    ap (λ n. ltb 0 n) (sym last) ∙ sym (any_one (drop c.args.count (bits_in c.args.bytes.now)))

pub returns-else-used-gt0-clause-exact : goal.returns-else-used-gt0-clause-exact
returns-else-used-gt0-clause-exact c =
    let none : c.args.count % 8 ≡ 0 = omega (arith, c.if-used-gt0.false) in
    let past = spare-full c.args.count c.args.bytes.now c.requires none in
    ap (λ n. ltb 0 n) (none ∙ sym ones_of-nil ∙ ap ones_of (sym past))

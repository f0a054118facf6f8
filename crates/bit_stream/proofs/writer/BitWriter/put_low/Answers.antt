use Rattle.std.proofs.Common.{◌≡◌, ◌+◌, ◌-◌, ◌*◌, ◌/◌, ◌^◌, ◌<◌, ◌≤◌, ◌++◌, sym, ap, ◌∙◌, arith, append_assoc, lit<}
use Rattle.std.proofs.Math.Nat.{pow-le-pow_right}
use Rattle.std.proofs.lemmas.Nat.{div_below, pow-add, pow_pos}
use Rattle.packed_bits.specs.Words.{low_bits}
use Rattle.bit_stream.specs.Bytes.{bits_in}
use Rattle.bit_stream.proofs.WriterLemmas.{word-full}
use Rattle.bit_stream.proofs.writer.BitWriter.put_low.Goals as goal

pub overflow_cast-self : goal.overflow_cast-self
overflow_cast-self c =
    let count = c.self.inside.filled + c.args.width in
    let most : 2 ^ count ≤ 2 ^ 63 = pow-le-pow_right {n = 2} (lit< tt) {i = count} {j = 63} (omega (arith, c.if-filled-lt64.true)) in
    omega (arith, most, c.joined-joined.ensures.small)

pub invariant_of-self : goal.invariant_of-self
invariant_of-self c = record { low = c.if-filled-lt64.true; small = c.joined-joined.ensures.small }

pub returns-then-filled-lt64 : goal.returns-then-filled-lt64
returns-then-filled-lt64 c =
    let bits = bits_in c.self.inside.bytes.items in
    record {
      ok = ap (λ rest. bits ++ rest) c.joined-joined.ensures.exact
          ∙ sym (append_assoc bits (low_bits c.self.inside.filled c.self.inside.waiting) (low_bits c.args.width c.args.value))
          ∙ ap (λ front. front ++ low_bits c.args.width c.args.value) c.self.view_is;
    }

pub invariant_of-self-2 : goal.invariant_of-self-2
invariant_of-self-2 c =
    let count = c.self.inside.filled + c.args.width in
    let whole : count ≡ count - 64 + 64 = omega (arith, c.if-filled-lt64.false) in
    let bound : c.joined-joined.result < 2 ^ (count - 64) * 2 ^ 64 =
    omega (arith, c.joined-joined.ensures.small, ap (λ k. 2 ^ k) whole, pow-add 2 (count - 64) 64) in
    record {
      low = omega (arith, c.self.invariant.low, c.requires);
      small = div_below c.joined-joined.result (2 ^ 64) (2 ^ (count - 64)) (pow_pos 64) bound;
    }

pub returns : goal.returns
returns c =
    let count = c.self.inside.filled + c.args.width in
    let bits = bits_in c.self.inside.bytes.items in
    let bytes = c.in_ok-extend_from_slice.ensures.items ∙ ap (λ word. c.self.inside.bytes.items ++ word) c.to_le_bytes.ensures in
    record {
      ok = ap (λ bytes. bits_in bytes ++ low_bits (count - 64) (c.joined-joined.result / 2 ^ 64)) bytes
          ∙ word-full c.self.inside.bytes.items c.joined-joined.result count (omega (arith, c.if-filled-lt64.false))
          ∙ ap (λ rest. bits ++ rest) c.joined-joined.ensures.exact
          ∙ sym (append_assoc bits (low_bits c.self.inside.filled c.self.inside.waiting) (low_bits c.args.width c.args.value))
          ∙ ap (λ front. front ++ low_bits c.args.width c.args.value) c.self.view_is;
    }

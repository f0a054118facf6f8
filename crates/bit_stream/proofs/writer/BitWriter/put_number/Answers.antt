use Rattle.std.proofs.Common.{◌≡◌, ℕ, ◌+◌, ◌-◌, ◌*◌, ◌%◌, ◌^◌, ◌≤◌, ap, ◌∙◌, arith}
use Rattle.std.proofs.lemmas.Nat.{one_shl}
use Rattle.bit_stream.specs.Numbers.{lg}
use Rattle.bit_stream.proofs.WriterLemmas.{digits-few, number_bits-pieces}
use Rattle.bit_stream.proofs.writer.BitWriter.put_number.Goals as goal

-- the number of digits has few
few : (value digits into counted : ℕ) → value + 2 ≤ 2 ^ 56 → digits ≡ lg (value + 1) → into ≡ digits → counted ≡ lg into
    → (digits ≤ 56) × (counted ≤ 6)
few value digits into counted small digits_is into_is counted_is =
    let most = digits-few value small in
    (omega (arith, most.0, digits_is), rw (counted_is, into_is, digits_is) most.1)

pub overflow_shl-zeros : goal.overflow_shl-zeros
overflow_shl-zeros c = omega (arith, few c.args.value _ _ _ c.requires c.digits_of-digits.ensures.exact c.into.ensures c.digits_of-zeros.ensures.exact)

pub put_low-requires : goal.put_low-requires
put_low-requires c = omega (arith, few c.args.value _ _ _ c.requires c.digits_of-digits.ensures.exact c.into.ensures c.digits_of-zeros.ensures.exact)

pub put_low-requires-2 : goal.put_low-requires-2
put_low-requires-2 c = omega (arith, few c.args.value _ _ _ c.requires c.digits_of-digits.ensures.exact c.into.ensures c.digits_of-zeros.ensures.exact)

pub put_low-requires-3 : goal.put_low-requires-3
put_low-requires-3 c = omega (arith, few c.args.value _ _ _ c.requires c.digits_of-digits.ensures.exact c.into.ensures c.digits_of-zeros.ensures.exact)

pub returns : goal.returns
returns c =
    let zeros = c.digits_of-zeros.result - 1 in
    let most = few c.args.value _ _ _ c.requires c.digits_of-digits.ensures.exact c.into.ensures c.digits_of-zeros.ensures.exact in
    let one : 1 * 2 ^ zeros % 18446744073709551616 ≡ 2 ^ zeros = one_shl zeros 64 (omega (arith, most.1)) in
    let number : c.digits_of-digits.result ≡ lg (c.args.value + 1) = c.digits_of-digits.ensures.exact in
    let count : c.digits_of-zeros.result ≡ lg (lg (c.args.value + 1)) =
    c.digits_of-zeros.ensures.exact ∙ ap lg (c.into.ensures ∙ number) in
    record {
      ok = rw (
        c.in_ok-put_low-3.ensures.ok,
        c.in_ok-put_low-2.ensures.ok,
        c.in_ok-put_low.ensures.ok,
        one,
        c.into-2.ensures,
        count,
        number,
      ) (number_bits-pieces c.args.self.now c.args.value);
    }

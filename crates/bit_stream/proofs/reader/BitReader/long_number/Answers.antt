use Rattle.std.proofs.Common.{◌≡◌, ℕ, suc, ◌+◌, ◌-◌, ◌*◌, ◌%◌, ◌^◌, ◌≤◌, ◌<◌, Ok, ap, ◌∙◌, sym, arith, lit<}
use Rattle.std.proofs.Math.Nat.{pow-suc, pow-le-pow_right}
use Rattle.std.proofs.lemmas.Nat.{one_shl, pow_pos}
use Rattle.std.proofs.lemmas.Result.{err_from_is_err_and}
use Rattle.bit_stream.proofs.ReaderLemmas.{number_in-no_zeros, number_in-no_low, number_in-large, number_in-no_rest, number_in-whole}
use Rattle.bit_stream.proofs.reader.BitReader.long_number.Goals as goal

pub returns-in_err-zeros-clause-exact : goal.returns-in_err-zeros-clause-exact
returns-in_err-zeros-clause-exact c =
    let p = err_from_is_err_and c.from_residual.result c.from_residual.ensures.1 in
    rw (p.1, p.2) (number_in-no_zeros c.args.self.now c.in_err-zeros.field-0.0 c.in_err-zeros.ensures.exact)

pub returns-in_err-digits-clause-exact : goal.returns-in_err-digits-clause-exact
returns-in_err-digits-clause-exact c =
    let p = err_from_is_err_and c.from_residual-in_err-digits.result c.from_residual-in_err-digits.ensures.1 in
    rw (p.1, p.2) (number_in-no_low c.in_ok-zeros.zeros c.args.self.now c.zeros.new.self c.in_ok-zeros.ensures.exact
    c.in_err-digits.field-0.0 c.in_err-digits.ensures.exact)

-- as many digits as were counted
count : (z low : ℕ) → z ≤ 5 → 1 * 2 ^ z % 4294967296 + low ≡ 2 ^ z + low
count z low few = ap (λ n. n + low) (one_shl z 32 (omega arith))

pub returns-then-digits-gt-MAX_DIGITS-clause-exact : goal.returns-then-digits-gt-MAX_DIGITS-clause-exact
returns-then-digits-gt-MAX_DIGITS-clause-exact c =
    number_in-large c.in_ok-zeros.zeros c.args.self.now c.zeros.new.self c.in_ok-zeros.ensures.exact c.in_ok-digits.field-0 _
    c.low.new.self c.in_ok-digits.ensures.exact (count c.in_ok-zeros.zeros c.in_ok-digits.field-0 c.in_ok-zeros.ensures.within) c.if-digits-gt-MAX_DIGITS.true

pub returns-in_err-low-clause-exact : goal.returns-in_err-low-clause-exact
returns-in_err-low-clause-exact c =
    let p = err_from_is_err_and c.from_residual-in_err-low.result c.from_residual-in_err-low.ensures.1 in
    rw (p.1, p.2) (number_in-no_rest c.in_ok-zeros.zeros c.args.self.now c.zeros.new.self c.in_ok-zeros.ensures.exact c.in_ok-digits.field-0 _
    c.low.new.self c.in_ok-digits.ensures.exact (count c.in_ok-zeros.zeros c.in_ok-digits.field-0 c.in_ok-zeros.ensures.within) c.if-digits-gt-MAX_DIGITS.false
    c.in_err-low.field-0.0 c.in_err-low.ensures.exact)

pub returns-clause-exact : goal.returns-clause-exact
returns-clause-exact c =
    let digits = 1 * 2 ^ c.in_ok-zeros.zeros % 4294967296 + c.in_ok-digits.field-0 in
    let one = one_shl (digits - 1) 64 (omega (arith, c.if-digits-gt-MAX_DIGITS.false)) in
    number_in-whole c.in_ok-zeros.zeros c.args.self.now c.zeros.new.self c.in_ok-zeros.ensures.exact c.in_ok-digits.field-0 digits
    c.low.new.self c.in_ok-digits.ensures.exact (count c.in_ok-zeros.zeros c.in_ok-digits.field-0 c.in_ok-zeros.ensures.within) c.if-digits-gt-MAX_DIGITS.false
    c.in_ok-low.field-0 c.low-2.new.self c.in_ok-low.ensures.exact
    ∙ ap (λ n. Ok (n + c.in_ok-low.field-0 - 1, c.low-2.new.self)) (sym one)

pub returns-clause-within : goal.returns-clause-within
returns-clause-within c =
    let digits = 1 * 2 ^ c.in_ok-zeros.zeros % 4294967296 + c.in_ok-digits.field-0 in
    let j = digits - 1 in
    let one = one_shl j 64 (omega (arith, c.if-digits-gt-MAX_DIGITS.false)) in
    let some : 0 < digits = omega (arith, count c.in_ok-zeros.zeros c.in_ok-digits.field-0 c.in_ok-zeros.ensures.within, pow_pos c.in_ok-zeros.zeros) in
    let most : 2 ^ suc j ≤ 2 ^ 56 = pow-le-pow_right {n = 2} (lit< tt) {i = suc j} {j = 56} (omega (arith, some, c.if-digits-gt-MAX_DIGITS.false)) in
    omega (arith, one, pow-suc 2 j, most, c.in_ok-low.ensures.within, pow_pos j)

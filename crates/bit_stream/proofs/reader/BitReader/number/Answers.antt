use Rattle.std.proofs.Common.{◌≡◌, ℕ, suc, ◌+◌, ◌-◌, ◌*◌, ◌/◌, ◌%◌, ◌^◌, ◌≤◌, ◌<◌, length, true, Ok, refl, ap, ◌∙◌, sym, arith, lit<}
use Rattle.std.proofs.Math.Nat.{pow-suc, pow-le-pow_right}
use Rattle.std.proofs.lemmas.Nat.{one_shl, mod_below, pow_pos}
use Rattle.std.proofs.lemmas.Bool.Decides.{nat_tests}
use Rattle.std.specs.Int.{w64, trailing_zeros}
use Rattle.bit_stream.proofs.ReaderLemmas.{number_in-shown}
use Rattle.bit_stream.proofs.reader.BitReader.number.Goals as goal

-- as many digits as were counted
count : (z low : ℕ) → z ≤ 5 → 1 * 2 ^ z % 4294967296 + low % (1 * 2 ^ z % 18446744073709551616) ≡ 2 ^ z + low % 2 ^ z
count z low few =
    ap (λ n. n + low % (1 * 2 ^ z % 18446744073709551616)) (one_shl z 32 (omega arith))
    ∙ ap (λ n. 2 ^ z + low % n) (one_shl z 64 (omega arith))

pub returns-clause-exact : goal.returns-clause-exact
returns-clause-exact c =
    let word = c.window-word.result in
    let bits = c.args.self.now in
    let z = trailing_zeros w64 word in
    let few : z ≤ 5 = c.if-zeros-gt-MAX_ZEROS.false in
    let digits = 1 * 2 ^ z % 4294967296 + word / 2 ^ (z + 1) % (1 * 2 ^ z % 18446744073709551616) in
    let narrow : 2 * z + digits ≤ 56 = c.if-length-gt-MAX_WIDTH.false in
    let long : c.is_long.result ≡ true = grind (arith, nat_tests) in
    let there : 2 * z + digits ≤ length bits = omega (arith, narrow, c.is_long.ensures long) in
    let one = one_shl (digits - 1) 64 (omega (arith, narrow)) in
    number_in-shown word bits c.window-word.ensures few c.window-word.type_inv z digits refl (count z (word / 2 ^ (z + 1)) few) narrow there
    ∙ ap (λ left. Ok (2 ^ (digits - 1) + word / 2 ^ (2 * z + 1) % 2 ^ (digits - 1) - 1, left)) (sym c.skip.ensures)
    ∙ ap (λ top. Ok (top + word / 2 ^ (2 * z + 1) % top - 1, c.skip.new.self)) (sym one)

pub returns-clause-within : goal.returns-clause-within
returns-clause-within c =
    let word = c.window-word.result in
    let z = trailing_zeros w64 word in
    let few : z ≤ 5 = c.if-zeros-gt-MAX_ZEROS.false in
    let digits = 1 * 2 ^ z % 4294967296 + word / 2 ^ (z + 1) % (1 * 2 ^ z % 18446744073709551616) in
    let narrow : 2 * z + digits ≤ 56 = c.if-length-gt-MAX_WIDTH.false in
    let j = digits - 1 in
    let some : 0 < digits = omega (arith, count z (word / 2 ^ (z + 1)) few, pow_pos z) in
    let one = one_shl j 64 (omega (arith, narrow)) in
    let most : 2 ^ suc j ≤ 2 ^ 56 = pow-le-pow_right {n = 2} (lit< tt) {i = suc j} {j = 56} (omega (arith, some, narrow)) in
    rw one (omega (arith, pow-suc 2 j, most, mod_below (word / 2 ^ (2 * z + 1)) (2 ^ j) (pow_pos j), pow_pos j))

use Rattle.std.proofs.Common.{◌≡◌, ◌*◌, ◌^◌, ◌≤◌, arith, lit<, ◌∙◌}
use Rattle.std.proofs.Math.Nat.{mod-eq_of_lt, pow-le-pow_right}
use Rattle.std.proofs.lemmas.Nat.{pow_pos}
use Rattle.k2_tree.proofs.MortonLemmas.{two_bits}
use Rattle.k2_tree.proofs.groups.fan_of.Goals as goal

pub returns-clause-value : goal.returns-clause-value
returns-clause-value c =
    let n = 2 * c.args.width in
    let most : 2 ^ n ≤ 2 ^ 4 = pow-le-pow_right {n = 2} (lit< tt) {i = n} {j = 4} (omega arith) in
    let one : 1 * 2 ^ n ≡ 2 ^ n = omega arith in
    rw one (mod-eq_of_lt (omega (arith, most)) ∙ two_bits c.args.width)

pub returns-clause-within : goal.returns-clause-within
returns-clause-within c =
    let n = 2 * c.args.width in
    let most : 2 ^ n ≤ 2 ^ 4 = pow-le-pow_right {n = 2} (lit< tt) {i = n} {j = 4} (omega arith) in
    let one : 1 * 2 ^ n ≡ 2 ^ n = omega arith in
    rw (one, mod-eq_of_lt {n = 2 ^ n} {m = 4294967296} (omega (arith, most))) most

pub returns-clause-some : goal.returns-clause-some
returns-clause-some c =
    let n = 2 * c.args.width in
    let most : 2 ^ n ≤ 2 ^ 4 = pow-le-pow_right {n = 2} (lit< tt) {i = n} {j = 4} (omega arith) in
    let one : 1 * 2 ^ n ≡ 2 ^ n = omega arith in
    rw (one, mod-eq_of_lt {n = 2 ^ n} {m = 4294967296} (omega (arith, most))) (pow_pos n)

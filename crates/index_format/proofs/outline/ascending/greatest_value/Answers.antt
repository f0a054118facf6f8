use Rattle.std.proofs.Common.{◌≡◌, ◌*◌, ◌-◌, ◌^◌, ◌%◌, ◌≤◌, arith, lit<}
use Rattle.std.proofs.Math.Nat.{pow-le-pow_right, mod-eq_of_lt, mul-le-mul_right}
use Rattle.index_format.proofs.outline.ascending.greatest_value.Goals as goal

pub returns-clause-within : goal.returns-clause-within
returns-clause-within c =
    let low : 2 ^ c.args.height ≤ 2 ^ 24 = pow-le-pow_right {n = 2} (lit< tt) {i = c.args.height} {j = 24} c.requires in
    let side = 2 * 2 ^ c.args.height % 18446744073709551616 - 1 in
    let whole : 2 * 2 ^ c.args.height % 18446744073709551616 ≡ 2 * 2 ^ c.args.height = mod-eq_of_lt (omega (arith, low)) in
    let few : side ≤ 33554431 = omega (arith, whole, low) in
    let area : side * side ≤ 33554431 * side = mul-le-mul_right side few in
    omega (arith, area, few)

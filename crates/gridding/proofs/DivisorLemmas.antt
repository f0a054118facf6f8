-- Quotients by products with a reciprocal, and what the quotients that are rounded towards minus infinity are.
use Rattle.std.proofs.Common.{◌≡◌, ℕ, ◌+◌, ◌*◌, ◌/◌, ◌<◌, ◌≤◌, arith}
use Rattle.std.specs.Prelude.{ℤ, pos, negsuc, ◌+ℤ◌, ◌*ℤ◌}
use Rattle.std.proofs.lemmas.Int.{ints}
use Rattle.std.proofs.Math.IntN.{+ℤ_one, suc_ℤ-*ℤ}
use Rattle.std.proofs.Math.Nat.{div-eq_of_lt-le, div-mul-le_self, le_of_lt, lt-div-mul-add, lt_of_mul-lt-mul_right, mul-le-mul_left, mul-le-mul_right}
use Rattle.gridding.specs.Floor.{IsFloor, floor_div}

-- n / d, by the least number above w / d, where n * d is below w
pub div-by_reciprocal : (n d w : ℕ) → 0 < d → n * d < w → n * (w / d + 1) / w ≡ n / d
div-by_reciprocal n d w some small =
    let q : ℕ = n / d in
    let p : ℕ = w / d in
    let q_low : q * d ≤ n = div-mul-le_self n d in
    let q_high : n < q * d + d = lt-div-mul-add some in
    let p_low : p * d ≤ w = div-mul-le_self w d in
    let p_high : w < p * d + d = lt-div-mul-add some in
    let least : q * w ≤ n * (p + 1) =
    omega (arith, mul-le-mul_left q (le_of_lt p_high), mul-le-mul_right (p + 1) q_low) in
    let most : n * (p + 1) * d < (q + 1) * w * d =
    omega (arith, small, mul-le-mul_left n p_low, mul-le-mul_right w q_high) in
    div-eq_of_lt-le w least (lt_of_mul-lt-mul_right d most)

-- the quotient is the greatest number whose product with the divisor is not above
IsFloor-floor_div : (a : ℤ) (d : ℕ) → 0 < d → IsFloor a d (floor_div a d)
IsFloor-floor_div (pos a) d some = grind (arith, ints)
IsFloor-floor_div (negsuc a) d some =
    let low : a / d * d ≤ a = div-mul-le_self a d in
    let high : a < a / d * d + d = lt-div-mul-add some in
    let q : ℤ = negsuc (a / d) in
    let next : (q +ℤ pos 1) *ℤ pos d ≡ q *ℤ pos d +ℤ pos d = rw (+ℤ_one q) (suc_ℤ-*ℤ q (pos d)) in
    record { at_most = omega (arith, ints, high); greatest = rw next (omega (arith, ints, low)) }

pub IsFloor-exact : (a : ℤ) (d : ℕ) (q : ℤ) → 0 < d → q ≡ floor_div a d → IsFloor a d q
IsFloor-exact a d q some exact = rw exact (IsFloor-floor_div a d some)

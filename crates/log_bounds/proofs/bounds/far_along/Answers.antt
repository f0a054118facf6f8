use Rattle.std.proofs.Common.{◌≡◌, ℤ, ◌+ℤ◌, arith, refl, to_z, of_z, w64}
use Rattle.std.proofs.lemmas.Int.{ints}
use Rattle.log_bounds.specs.Bounds.{gap}
use Rattle.log_bounds.proofs.bounds.far_along.Goals as goal

-- a sum is what it is in a word
abbrev in_word : ℤ → ℤ → ℤ
in_word a b = to_z w64 (of_z w64 (to_z w64 (of_z w64 a) +ℤ to_z w64 (of_z w64 b)))

pub returns : goal.returns
returns c =
    let a = c.args in
    let first : in_word a.amount a.first ≡ a.amount +ℤ a.first = omega (arith, ints) in
    let last : in_word a.amount a.last ≡ a.amount +ℤ a.last = omega (arith, ints) in
    let before : c.unsigned_abs-before.result ≡ gap (a.amount +ℤ a.first) a.from =
    omega (arith, ints, c.unsigned_abs-before.ensures.value, first) in
    let behind : c.unsigned_abs-behind.result ≡ gap (a.amount +ℤ a.last) a.from =
    omega (arith, ints, c.unsigned_abs-behind.ensures.value, last) in
    rw (c.max.ensures, before, behind) refl

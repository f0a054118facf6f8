-- Numbers: quotients, and the least power of two that is as great as a number.
use Rattle.std.proofs.Common.{◌≡◌, ℕ, suc, ◌-◌, ◌/◌, ◌^◌, ◌<◌, ◌≤◌, true, false, List, length, get_or, ◌∙◌, arith, inl, inr}
use Rattle.std.specs.Prelude.{nat_le}
use Rattle.std.specs.List.{position_or_len, range_with_len}
use Rattle.std.proofs.Math.Nat.{div-mul-le_self}
use Rattle.std.proofs.lemmas.Bool.{cases_lt}
use Rattle.std.proofs.lemmas.Bool.Decides.{nat_tests}
use Rattle.std.proofs.lemmas.List.FromFn.{get_or-range_with_len, length-range_with_len}
use Rattle.std.proofs.lemmas.List.Sums.{fails_before_first, passes_at_first}
use Rattle.std.proofs.lemmas.Nat.{le-div}

-- division keeps the order
pub div-le : (k a b : ℕ) → 0 < k → a ≤ b → a / k ≤ b / k
div-le k a b some le = le-div (a / k) b k some (omega (arith, le, div-mul-le_self a k))

-- the least power of two, from 2 on, that is as great as a number, among so many
pub least_power : (most number : ℕ) → 1 ≤ most → number ≤ 2 ^ most
    → let power = suc (position_or_len (λ power. nat_le number (2 ^ power)) (range_with_len 1 most)) in
    (power ≤ most) × (number ≤ 2 ^ power)
least_power most number some short =
    let powers : List ℕ = range_with_len 1 most in
    let place : ℕ = position_or_len (λ power. nat_le number (2 ^ power)) powers in
    let long : length powers ≡ most = length-range_with_len 1 most in
    let within : place < most = elim (cases_lt (most - 1) place) [
      | inl past ↦
          let last : get_or powers (most - 1) 0 ≡ most =
          get_or-range_with_len 1 most (most - 1) 0 (omega arith) ∙ omega arith in
          let fails = fails_before_first (λ power. nat_le number (2 ^ power)) powers (most - 1) 0 past in
          let fails' : nat_le number (2 ^ most) ≡ false = rw last at fails in
          let above : 2 ^ most < number = grind (arith, nat_tests) in
          absurd (omega arith)
      | inr not ↦ omega arith
    ] in
    let passes = passes_at_first (λ power. nat_le number (2 ^ power)) powers 0 (omega arith) in
    let at : get_or powers place 0 ≡ suc place = get_or-range_with_len 1 most place 0 within ∙ omega arith in
    let holds : nat_le number (2 ^ suc place) ≡ true = rw at at passes in
    (omega arith, grind (arith, nat_tests))

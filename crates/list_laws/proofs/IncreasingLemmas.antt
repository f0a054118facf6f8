-- Ascending numbers: the later one is the greater.
use Rattle.std.proofs.Common.{◌≡◌, ℕ, zero, suc, ◌<◌, ◌≤◌, List, length, get_or, add-one, ap, inl, inr, arith}
use Rattle.std.specs.List.Sorted.{IsStrictlyIncreasing}
use Rattle.std.proofs.lemmas.Bool.{cases_lt}

-- an earlier one is less
pub increasing-below : (xs : List ℕ) → IsStrictlyIncreasing xs → (i j : ℕ) → i < j → j < length xs
    → get_or xs i 0 < get_or xs j 0
increasing-below xs rising i zero less within = absurd (omega arith)
increasing-below xs rising i (suc j) less within =
    let next : get_or xs j 0 < get_or xs (suc j) 0 = rw (← add-one j) (rising j (omega arith)) in
    elim (cases_lt i j) [
      | inl before ↦ let below = increasing-below xs rising i j before (omega arith) in omega arith
      | inr not ↦ let is : i ≡ j = omega arith in omega (arith, ap (λ k. get_or xs k 0) is)
    ]

-- one that is not later is at most as great
pub increasing-at_most : (xs : List ℕ) → IsStrictlyIncreasing xs → (i j : ℕ) → i ≤ j → j < length xs
    → get_or xs i 0 ≤ get_or xs j 0
increasing-at_most xs rising i j most within = elim (cases_lt i j) [
  | inl less ↦ let below = increasing-below xs rising i j less within in omega arith
  | inr same ↦ let is : i ≡ j = omega arith in omega (arith, ap (λ k. get_or xs k 0) is)
]

-- The digits of a mask, from the last on.
use Rattle.std.proofs.Common.{◌≡◌, ℕ, suc, ◌+◌, ◌-◌, ◌/◌, ◌%◌, ◌^◌, ◌<◌, ◌≤◌, ◌==◌, true, false, List, []}
use Rattle.std.proofs.Common.{◌∷◌, ◌++◌, length, filter, refl, sym, ap, ◌∙◌, arith, length-append, zero-add, All}
use Rattle.std.specs.Int.{bit_at}
use Rattle.std.specs.List.{range_with_len}
use Rattle.std.proofs.lemmas.Bool.Decides.{nat_tests}
use Rattle.std.proofs.lemmas.List.Elements.{filter-append, All-filter}
use Rattle.list_laws.proofs.RangeLemmas.{range-parts}
use Rattle.box_tree.specs.Held.{mask_digits}
use Rattle.box_tree.proofs.RunLemmas.{All-range}

-- the digits of a mask from one on
unfoldable pub digits_from : ℕ → ℕ → ℕ → List ℕ
digits_from level mask digit = filter (λ d. bit_at mask d == 1) (range_with_len digit (4 ^ level - digit))

-- there are none after the last child
pub digits_from-end : (level mask digit : ℕ) → 4 ^ level ≤ digit → digits_from level mask digit ≡ []
unfolding digits_from
digits_from-end level mask digit past = let none : 4 ^ level - digit ≡ 0 = omega arith in rw none refl

-- from 0 on they are all
pub digits_from-zero : (level mask : ℕ) → digits_from level mask 0 ≡ mask_digits level mask
unfolding digits_from mask_digits
digits_from-zero level mask = let all : 4 ^ level - 0 ≡ 4 ^ level = omega arith in rw all refl

-- a digit whose bit is set is the first of them
pub digits_from-set : (level mask digit : ℕ) → digit < 4 ^ level → mask / 2 ^ digit % 2 ≡ 1
    → digits_from level mask digit ≡ digit ∷ digits_from level mask (digit + 1)
unfolding digits_from
digits_from-set level mask digit low set =
    let more : 4 ^ level - digit ≡ suc (4 ^ level - (digit + 1)) = omega arith in
    let holds : (bit_at mask digit == 1) ≡ true = grind (arith, nat_tests) in
    rw (more, holds) refl

-- and one whose bit is not is none
pub digits_from-clear : (level mask digit : ℕ) → digit < 4 ^ level → (mask / 2 ^ digit % 2 ≡ 1 → ⊥)
    → digits_from level mask digit ≡ digits_from level mask (digit + 1)
unfolding digits_from
digits_from-clear level mask digit low clear =
    let more : 4 ^ level - digit ≡ suc (4 ^ level - (digit + 1)) = omega arith in
    let fails : (bit_at mask digit == 1) ≡ false = grind (arith, nat_tests) in
    rw (more, fails) refl

-- they are at most as many as all
pub digits_from-few : (level mask digit : ℕ) → digit ≤ 4 ^ level
    → length (digits_from level mask digit) ≤ length (mask_digits level mask)
unfolding digits_from mask_digits
digits_from-few level mask digit low =
    let p = λ (d : ℕ). bit_at mask d == 1 in
    let parts : range_with_len 0 (digit + (4 ^ level - digit)) ≡ range_with_len 0 digit ++ range_with_len digit
    (4 ^ level - digit) =
    range-parts 0 digit (4 ^ level - digit)
    ∙ ap (λ a. range_with_len 0 digit ++ range_with_len a (4 ^ level - digit)) (zero-add digit) in
    let all : digit + (4 ^ level - digit) ≡ 4 ^ level = omega arith in
    let split : filter p (range_with_len 0 (4 ^ level)) ≡ filter p (range_with_len 0 digit) ++ filter p
    (range_with_len digit (4 ^ level - digit)) =
    ap (λ n. filter p (range_with_len 0 n)) (sym all) ∙ ap (filter p) parts
    ∙ filter-append p (range_with_len 0 digit) (range_with_len digit (4 ^ level - digit)) in
    omega (
      arith,
      ap length split,
      length-append (filter p (range_with_len 0 digit))
          (filter p (range_with_len digit (4 ^ level - digit))),
    )

-- each is the digit of a child
pub mask_digits-small : (level mask : ℕ) → All (λ d. d < 4 ^ level) (mask_digits level mask)
unfolding mask_digits
mask_digits-small level mask =
    All-filter (λ d. bit_at mask d == 1) (λ d. d < 4 ^ level) (range_with_len 0 (4 ^ level))
    (All-range (λ d. d < 4 ^ level) 0 (4 ^ level) (λ j low high. omega arith))

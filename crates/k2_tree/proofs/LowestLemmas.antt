-- The lowest bit that is set, and what is left without it, for any number of digits.
use Rattle.std.proofs.Common.{◌≡◌, ℕ, zero, suc, ◌+◌, ◌-◌, ◌/◌, ◌%◌, ◌^◌, ◌<◌, ◌≤◌, ◌==◌, Bool, true, false}
use Rattle.std.proofs.Common.{[], ◌∷◌, filter, refl, sym, ap, ◌∙◌, inl, inr, arith, bit_and, min, lit<}
use Rattle.std.specs.Int.{w32, bit_at, trailing_zeros}
use Rattle.std.specs.List.{range_with_len}
use Rattle.k2_tree.specs.Digits.{digits_of}
use Rattle.std.proofs.Math.Nat.{div-eq_of_lt, pow-le-pow_right}
use Rattle.std.proofs.lemmas.Bool.{cases_lt}
use Rattle.std.proofs.lemmas.Bool.Decides.{nat_tests}
use Rattle.std.proofs.lemmas.Nat.{and_le_l}
use Rattle.std.proofs.lemmas.Nat.Bits.{bit_at_lowest, bit_at-suc, bit_at-zero, bit_at_and, bit_at-trailing_zeros}

-- the lowest bit of n that is set is t's
abbrev pub IsLowestSet : ℕ → ℕ → Type 0
IsLowestSet n t = (bit_at n t ≡ 1) × ((i : ℕ) → i < t → bit_at n i ≡ 0)

half_lowest : (n t : ℕ) → IsLowestSet n (suc t) → IsLowestSet (n / 2) t
half_lowest n t is = (sym (bit_at-suc n t) ∙ is.0, λ i low. sym (bit_at-suc n i) ∙ is.1 (suc i) (omega arith))

-- one less has the bits above it
above_lowest : (t n i : ℕ) → IsLowestSet n t → t < i → bit_at (n - 1) i ≡ bit_at n i
above_lowest t n zero is more = absurd (omega arith)
above_lowest zero n (suc i) is more =
    let half : (n - 1) / 2 ≡ n / 2 = omega (arith, is.0, bit_at_lowest n) in
    bit_at-suc (n - 1) i ∙ ap (λ x. bit_at x i) half ∙ sym (bit_at-suc n i)
above_lowest (suc t) n (suc i) is more =
    let half : (n - 1) / 2 ≡ n / 2 - 1 = omega (arith, is.1 0 (omega arith), bit_at_lowest n) in
    bit_at-suc (n - 1) i ∙ ap (λ x. bit_at x i) half
    ∙ above_lowest t (n / 2) i (half_lowest n t is) (omega arith) ∙ sym (bit_at-suc n i)

-- and not the lowest itself
at_lowest : (t n : ℕ) → IsLowestSet n t → bit_at (n - 1) t ≡ 0
at_lowest zero n is = omega (arith, is.0, bit_at_lowest n, bit_at_lowest (n - 1))
at_lowest (suc t) n is =
    let half : (n - 1) / 2 ≡ n / 2 - 1 = omega (arith, is.1 0 (omega arith), bit_at_lowest n) in
    bit_at-suc (n - 1) t ∙ ap (λ x. bit_at x t) half ∙ at_lowest t (n / 2) (half_lowest n t is)

-- without the first number that passes a test those after it are left
first_kept : (p q : ℕ → Bool) (start m t : ℕ) → start ≤ t → t < start + m → p t ≡ true
    → ((i : ℕ) → start ≤ i → i < t → p i ≡ false) → ((i : ℕ) → start ≤ i → i ≤ t → q i ≡ false)
    → ((i : ℕ) → t < i → q i ≡ p i)
    → filter p (range_with_len start m) ≡ t ∷ filter q (range_with_len start m)
first_kept p q start zero t from to on low off same = absurd (omega arith)
first_kept p q start (suc m) t from to on low off same = elim (cases_lt start t) [
  | inl less ↦
      let rest = first_kept p q (start + 1) m t (omega arith) (omega arith) on (λ i a b. low i (omega arith) b)
      (λ i a b. off i (omega arith) b) same in
      rw (low start (omega arith) less, off start (omega arith) from) rest
  | inr most ↦
      let here : start ≡ t = omega arith in
      let first : p start ≡ true = ap p here ∙ on in
      rw (first, off start (omega arith) from) (ap (λ x. x ∷ filter p (range_with_len (start + 1) m)) here
      ∙ ap (λ xs. t ∷ xs) (alike (start + 1) m (omega arith)))
]
  where
    alike : (start m : ℕ) → t < start → filter p (range_with_len start m) ≡ filter q (range_with_len start m)
    alike start zero past = refl
    alike start (suc m) past = grind (arith, same start past, alike (start + 1) m (omega arith))

-- the lowest bit that is set is the first digit, and without it the others are left
pub record IsLowest (size bits : ℕ) : Type 0 where
  pub small : trailing_zeros w32 bits < size
  pub first : digits_of size bits ≡ trailing_zeros w32 bits ∷ digits_of size (bit_and bits (bits - 1))
  pub few : bit_and bits (bits - 1) < 2 ^ size

pub lowest : (size bits : ℕ) → size ≤ 32 → bits < 2 ^ size → (bits ≡ 0 → ⊥) → IsLowest size bits
unfolding digits_of
lowest size bits fits few some =
    let most : 2 ^ size ≤ 2 ^ 32 = pow-le-pow_right {n = 2} (lit< tt) fits in
    let told = bit_at-trailing_zeros w32 bits (omega (arith, some)) (omega arith) in
    let t : ℕ = trailing_zeros w32 bits in
    let is : IsLowestSet bits t = (told.1, told.2) in
    let rest : ℕ = bit_and bits (bits - 1) in
    let low : t < size = elim (cases_lt t size) [
      | inl less ↦ less
      | inr more ↦
          let grows : 2 ^ size ≤ 2 ^ t = pow-le-pow_right {n = 2} (lit< tt) more in
          let none : bits / 2 ^ t ≡ 0 = div-eq_of_lt (omega arith) in
          absurd (omega (arith, told.1, ap (λ x. x % 2) none))
    ] in
    record {
      small = low;
      first = first_kept (λ d. bit_at bits d == 1) (λ d. bit_at rest d == 1) 0 size t (omega arith) (omega (arith, low))
          (grind (arith, nat_tests, told.1))
          (λ i a b. grind (arith, nat_tests, told.2 i b))
          (λ i a b. grind (arith, nat_tests, off bits t i is b))
          (λ i past. ap (λ x. x == 1) (bit_at_and bits (bits - 1) i ∙ on bits t i is past));
      few = omega (arith, and_le_l bits (bits - 1));
    }
  where
    off : (n t i : ℕ) → IsLowestSet n t → i ≤ t → bit_at (bit_and n (n - 1)) i ≡ 0
    off n t i is low = elim (cases_lt i t) [
      | inl less ↦ omega (arith, bit_at_and n (n - 1) i, is.1 i less)
      | inr here ↦
          let e : i ≡ t = omega arith in
          omega (arith, bit_at_and n (n - 1) i, ap (bit_at (n - 1)) e, at_lowest t n is)
    ]

    on : (n t i : ℕ) → IsLowestSet n t → t < i → min (bit_at n i) (bit_at (n - 1) i) ≡ bit_at n i
    on n t i is past = omega (arith, above_lowest t n i is past)

-- no bit, no digit
pub digits_of-zero : (size : ℕ) → digits_of size 0 ≡ []
unfolding digits_of
digits_of-zero size = none 0 size
  where
    none : (d n : ℕ) → filter (λ digit. bit_at 0 digit == 1) (range_with_len d n) ≡ []
    none d zero = refl
    none d (suc n) = grind (arith, nat_tests, bit_at-zero d, none (d + 1) n)

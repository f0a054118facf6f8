-- Sums over pairs, over ranges, and over what is made of some members of a list.
use Rattle.std.proofs.Common.{◌≡◌, ℕ, zero, suc, ◌+◌, ◌-◌, ◌<◌, ◌≤◌, Bool, List, [], ◌∷◌, get_or, refl, sym, ◌∙◌, ap, eqb}
use Rattle.std.proofs.Common.{arith, inl, inr, Option, None, Some, All, false, true, length}
use Rattle.std.specs.Prelude.{◌==◌, ◌*◌, if◌then◌else◌, ⊤}
use Rattle.std.specs.List.{cons_option, enumerate_from, filter_map, range_with_len, sum_by}
use Rattle.std.proofs.lemmas.Bool.{cases_lt, eq-eqb, ne_eqb, cases_Bool}
use Rattle.std.proofs.lemmas.Bool.Decides.{nat_tests}
use Rattle.std.proofs.lemmas.List.Sums.{sum_by-cons}
use Rattle.list_laws.proofs.FlatLemmas.{sum_by_plus}
use Rattle.list_laws.proofs.OptionLemmas.{All-made}

-- a sum of nothing but zeros
pub sum_by-zeros : {X : Type 0} (xs : List X) → sum_by (λ _. 0) xs ≡ 0
sum_by-zeros [] = refl
sum_by-zeros (x ∷ xs) = omega (arith, sum_by-cons (λ _. 0) x xs, sum_by-zeros xs)

-- terms that agree
pub sum_by-agree : {X : Type 0} (f g : X → ℕ) → ((x : X) → f x ≡ g x) → (xs : List X) → sum_by f xs ≡ sum_by g xs
sum_by-agree f g same [] = refl
sum_by-agree f g same (x ∷ xs) =
    omega (arith, sum_by-cons f x xs, sum_by-cons g x xs, same x, sum_by-agree f g same xs)

-- a sum over pairs, added up either way
pub sum_by-swap : {X Y : Type 0} (f : X → Y → ℕ) (xs : List X) (ys : List Y)
    → sum_by (λ x. sum_by (f x) ys) xs ≡ sum_by (λ y. sum_by (λ x. f x y) xs) ys
sum_by-swap f [] ys = sym (sum_by-zeros ys)
sum_by-swap f (x ∷ xs) ys =
    omega (
      arith,
      sum_by-cons (λ z. sum_by (f z) ys) x xs,
      sum_by-swap f xs ys,
      sum_by-agree (λ y. sum_by (λ z. f z y) (x ∷ xs)) (λ y. f x y + sum_by (λ z. f z y) xs)
          (λ y. sum_by-cons (λ z. f z y) x xs) ys,
      sum_by_plus (f x) (λ y. sum_by (λ z. f z y) xs) ys,
    )

-- terms that agree over a range
pub sum_by-range_agree : (f g : ℕ → ℕ) (first count : ℕ)
    → ((i : ℕ) → first ≤ i → i < first + count → f i ≡ g i)
    → sum_by f (range_with_len first count) ≡ sum_by g (range_with_len first count)
sum_by-range_agree f g first zero same = refl
sum_by-range_agree f g first (suc count) same =
    omega (
      arith,
      sum_by-cons f first (range_with_len (first + 1) count),
      sum_by-cons g first (range_with_len (first + 1) count),
      same first (omega arith) (omega arith),
      sum_by-range_agree f g (first + 1) count (λ i low high. same i (omega arith) (omega arith)),
    )

-- a term for what may be made
abbrev pub made_weight : {Y : Type 0} → (Y → ℕ) → Option Y → ℕ
made_weight f None = 0
made_weight f (Some y) = f y

-- a sum over what is made of some members
pub sum_by-filter_map : {X Y : Type 0} (f : Y → ℕ) (make : X → Option Y) (xs : List X)
    → sum_by f (filter_map make xs) ≡ sum_by (λ x. made_weight f (make x)) xs
sum_by-filter_map f make [] = refl
sum_by-filter_map {X} {Y} f make (x ∷ xs) =
    by_made (make x) (sum_by-filter_map f make xs) ∙ sym (sum_by-cons (λ z. made_weight f (make z)) x xs)
  where
    by_made : (made : Option Y) → sum_by f (filter_map make xs) ≡ sum_by (λ z. made_weight f (make z)) xs
        → sum_by f (cons_option made (filter_map make xs))
        ≡ made_weight f made + sum_by (λ z. made_weight f (make z)) xs
    by_made None rest = omega (arith, rest)
    by_made (Some y) rest = omega (arith, rest, sum_by-cons f y (filter_map make xs))

-- what holds of all that is made
pub All-filter_map : {X Y : Type 0} (P : Y → Type 0) (make : X → Option Y) (xs : List X)
    → ((x : X) (y : Y) → make x ≡ Some y → P y) → All P (filter_map make xs)
All-filter_map P make xs each = All-made make (λ _. ⊤) P (λ x y _. each x y) xs (λ _ _ _. tt)

-- so much more for each
pub sum_by-each : {X : Type 0} (f : X → ℕ) (k : ℕ) (xs : List X) → sum_by (λ x. k + f x) xs ≡ k * length xs + sum_by f xs
sum_by-each f k [] = omega arith
sum_by-each f k (x ∷ xs) =
    grind (arith, sum_by-cons (λ z. k + f z) x xs, sum_by-cons f x xs, sum_by-each f k xs)

-- a term for one number alone, if its member passes a test
module _ {X : Type 0} (passes : X → Bool) (place value : ℕ) where
  abbrev pub weight_at : ℕ × X → ℕ
  weight_at item = if passes item.1 then (if place == item.0 then value else 0) else 0

  pub sum_by-weight_above : (k : ℕ) (xs : List X) → place < k → sum_by weight_at (enumerate_from k xs) ≡ 0
  sum_by-weight_above k [] above = refl
  sum_by-weight_above k (x ∷ xs) above =
      grind (
        arith,
        nat_tests,
        sum_by-cons weight_at (k, x) (enumerate_from (k + 1) xs),
        sum_by-weight_above (k + 1) xs (omega arith),
      )

  pub sum_by-weight_at : (k : ℕ) (xs : List X) (d : X) → k ≤ place → place - k < length xs
      → sum_by weight_at (enumerate_from k xs) ≡ (if passes (get_or xs (place - k) d) then value else 0)
  sum_by-weight_at k [] d low within = absurd (omega arith)
  sum_by-weight_at k (x ∷ xs) d low within = elim (cases_lt k place) [
    | inl later ↦
        let back : place - k ≡ suc (place - (k + 1)) = omega arith in
        let other : (place == k) ≡ false = ne_eqb place k (λ e. omega arith) in
        let rest = sum_by-weight_at (k + 1) xs d (omega arith) (omega arith) in
        rw back (grind (arith, other, sum_by-cons weight_at (k, x) (enumerate_from (k + 1) xs), rest))
    | inr not ↦
        let here : place ≡ k = omega arith in
        let front : place - k ≡ 0 = omega arith in
        let same : (place == k) ≡ true = eq-eqb place k here in
        let rest = sum_by-weight_above (k + 1) xs (omega arith) in
        rw front (grind (arith, same, sum_by-cons weight_at (k, x) (enumerate_from (k + 1) xs), rest))
  ]

-- a number of a range counts in a sum over it
pub sum_by-range_some : (f : ℕ → ℕ) (from n place : ℕ) → from ≤ place → place < from + n
    → f place ≤ sum_by f (range_with_len from n)
sum_by-range_some f from zero place low high = absurd (omega arith)
sum_by-range_some f from (suc n) place low high = elim (cases_Bool (eqb from place)) [
  | inl here ↦
      let same : from ≡ place = grind (arith, nat_tests) in
      omega (arith, sum_by-cons f from (range_with_len (from + 1) n), ap f same)
  | inr other ↦
      let apart : from < place = grind (arith, nat_tests) in
      let rest = sum_by-range_some f (from + 1) n place (omega arith) (omega arith) in
      omega (arith, sum_by-cons f from (range_with_len (from + 1) n), rest)
]

-- the first terms of a sum over numbers, and the next one, are within the whole sum
from-zero : (from : ℕ) → from + 0 ≡ from
from-zero from = omega arith

from-suc : (from n : ℕ) → from + suc n ≡ from + 1 + n
from-suc from n = omega arith

pub sum_by-range_next : (f : ℕ → ℕ) (from n m : ℕ) → n < m
    → sum_by f (range_with_len from n) + f (from + n) ≤ sum_by f (range_with_len from m)
sum_by-range_next f from n zero less = absurd (omega arith)
sum_by-range_next f from zero (suc m) less =
    omega (arith, sum_by-cons f from (range_with_len (from + 1) m), ap f (from-zero from))
sum_by-range_next f from (suc n) (suc m) less =
    omega (
      arith,
      sum_by-cons f from (range_with_len (from + 1) n),
      sum_by-cons f from (range_with_len (from + 1) m),
      sum_by-range_next f (from + 1) n m (omega arith),
      ap f (from-suc from n),
    )

-- one for one number of a range
abbrev pub one_at : ℕ → ℕ → ℕ
one_at own n = if own == n then 1 else 0

-- a range that begins above the number has none of it
ones_above : (own from count : ℕ) → own < from → sum_by (one_at own) (range_with_len from count) ≡ 0
ones_above own from zero above = refl
ones_above own from (suc count) above =
    grind (arith, nat_tests, sum_by-cons (one_at own) from (range_with_len (from + 1) count), ones_above own (from + 1) count (omega arith))

-- and there is one of it, where it is in the range
pub ones_within : (own from count : ℕ) → from ≤ own → own < from + count → sum_by (one_at own) (range_with_len from count) ≡ 1
ones_within own from zero low high = absurd (omega arith)
ones_within own from (suc count) low high = elim (cases_lt from own) [
  | inl later ↦
      grind (arith, nat_tests, sum_by-cons (one_at own) from (range_with_len (from + 1) count), ones_within own (from + 1) count (omega arith) (omega arith))
  | inr not ↦
      let here : from ≡ own = omega arith in
      grind (arith, nat_tests, sum_by-cons (one_at own) from (range_with_len (from + 1) count), ones_above own (from + 1) count (omega arith))
]

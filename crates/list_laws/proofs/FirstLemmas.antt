-- What is first of what members give, each of which may give nothing.
use Rattle.std.proofs.Common.{◌≡◌, ℕ, zero, suc, ◌+◌, ◌<◌, ◌≤◌, List, [], ◌∷◌, map, Option, None, Some, All, inl, inr, refl, ap, ◌∙◌, arith}
use Rattle.std.specs.List.{range_with_len}
use Rattle.std.specs.Option.{option_map, option_or}
use Rattle.std.proofs.lemmas.Bool.{cases_order}
use Rattle.std.proofs.lemmas.List.Elements.{All-nil, All-cons, All-head, All-tail}
use Rattle.list_laws.specs.First.{first_given}

module _ {Y : Type 0} (give : ℕ → Option Y) where
  -- nothing comes where no number of a range gives anything
  pub first_of_range-none : (from n : ℕ) → ((j : ℕ) → from ≤ j → j < from + n → give j ≡ None)
      → first_given give (range_with_len from n) ≡ None
  unfolding first_given
  first_of_range-none from zero none = refl
  first_of_range-none from (suc n) none =
      let here : give from ≡ None = none from (omega arith) (omega arith) in
      rw here (first_of_range-none (from + 1) n (λ j low high. none j (omega arith) (omega arith)))

  -- where numbers before one give nothing, what it gives is first
  pub first_of_range-at : (from n place : ℕ) (y : Y) → from ≤ place → place < from + n
      → ((j : ℕ) → from ≤ j → j < place → give j ≡ None) → give place ≡ Some y
      → first_given give (range_with_len from n) ≡ Some y
  unfolding first_given
  first_of_range-at from zero place y low high before gives = absurd (omega arith)
  first_of_range-at from (suc n) place y low high before gives = elim (cases_order from place) [
    | inl same ↦ let here : give from ≡ Some y = ap give same ∙ gives in rw here refl
    | inr other ↦ elim other [
      | inl later ↦
          let here : give from ≡ None = before from (omega arith) later in
          rw here (first_of_range-at (from + 1) n place y (omega arith) (omega arith)
          (λ j above below. before j (omega arith) below) gives)
      | inr earlier ↦ absurd (omega arith)
    ]
  ]

-- a choice of two is none only where both are
pub or-none : {Y : Type 0} (a b : Option Y) → option_or a b ≡ None → (a ≡ None) × (b ≡ None)
or-none None b none = (refl, none)
or-none (Some y) b none = absurd (cc)

-- a choice with nothing as the second is the first
pub option_or-none : {Y : Type 0} (a : Option Y) → option_or a None ≡ a
option_or-none None = refl
option_or-none (Some y) = refl

-- what is made of a value is none only where there is no value
pub map-none : {X Y : Type 0} (f : X → Y) (a : Option X) → option_map f a ≡ None → a ≡ None
map-none f None none = refl
map-none f (Some x) none = absurd (cc)

-- where nothing is first, no member gives anything
pub All-first_given : {X Y : Type 0} (give : X → Option Y) (xs : List X) → first_given give xs ≡ None
    → All (λ x. give x ≡ None) xs
unfolding first_given
All-first_given give [] none = All-nil (λ x. give x ≡ None)
All-first_given give (x ∷ xs) none =
    let both = or-none (give x) (first_given give xs) none in
    All-cons (λ y. give y ≡ None) x xs both.0 (All-first_given give xs both.1)

-- where nothing is first, no number of a range gives anything
pub first_of_range-all : {Y : Type 0} (give : ℕ → Option Y) (from n : ℕ) → first_given give (range_with_len from n) ≡ None
    → (j : ℕ) → from ≤ j → j < from + n → give j ≡ None
unfolding first_given
first_of_range-all give from zero none j low high = absurd (omega arith)
first_of_range-all give from (suc n) none j low high =
    let both = or-none (give from) (first_given give (range_with_len (from + 1) n)) none in
    elim (cases_order j from) [
      | inl same ↦ ap give same ∙ both.0
      | inr other ↦ first_of_range-all give (from + 1) n both.1 j (omega arith) (omega arith)
    ]

-- where no member gives anything, nothing is first
pub first_given-none : {X Y : Type 0} (give : X → Option Y) (xs : List X) → All (λ x. give x ≡ None) xs
    → first_given give xs ≡ None
unfolding first_given
first_given-none give [] none = refl
first_given-none give (x ∷ xs) none =
    rw (All-head (λ y. give y ≡ None) x xs none) (first_given-none give xs (All-tail (λ y. give y ≡ None) x xs none))

-- what is first of what mapped members give
pub first_given-map : {X Y Z : Type 0} (give : Y → Option Z) (f : X → Y) (xs : List X)
    → first_given give (map f xs) ≡ first_given (λ x. give (f x)) xs
unfolding first_given
first_given-map give f [] = refl
first_given-map give f (x ∷ xs) = ap (option_or (give (f x))) (first_given-map give f xs)

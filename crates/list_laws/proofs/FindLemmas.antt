-- The first that passes a test: of a range of numbers, and of a list.
use Rattle.std.proofs.Common.{◌≡◌, ℕ, zero, suc, ◌+◌, ◌<◌, ◌≤◌, Bool, true, false, None, Some, inl, inr, refl, ap, ◌∙◌, arith, List, [], ◌∷◌, Option, map}
use Rattle.std.specs.List.{find, range_with_len, list_any}
use Rattle.std.proofs.lemmas.Bool.{cases_order, cases_Bool}
use Rattle.std.specs.Option.{option_map, option_or}

-- it is one that passes, where none before it does
pub find_in_range-first : (test : ℕ → Bool) (from n place : ℕ) → from ≤ place → place < from + n →
    ((j : ℕ) → from ≤ j → j < place → test j ≡ false) → test place ≡ true →
    find test (range_with_len from n) ≡ Some place
find_in_range-first test from zero place low high before here = absurd (omega arith)
find_in_range-first test from (suc n) place low high before here = elim (cases_order from place) [
  | inl same ↦ let passes : test from ≡ true = ap test same ∙ here in rw passes (ap Some same)
  | inr other ↦ elim other [
    | inl later ↦
        let fails : test from ≡ false = before from (omega arith) later in
        rw fails (find_in_range-first test (from + 1) n place (omega arith) (omega arith)
        (λ j above below. before j (omega arith) below) here)
    | inr earlier ↦ absurd (omega arith)
  ]
]

-- there is none where no number passes
pub find_in_range-none : (test : ℕ → Bool) (from n : ℕ) → ((j : ℕ) → from ≤ j → j < from + n → test j ≡ false) →
    find test (range_with_len from n) ≡ None
find_in_range-none test from zero fail = refl
find_in_range-none test from (suc n) fail =
    let fails : test from ≡ false = fail from (omega arith) (omega arith) in
    rw fails (find_in_range-none test (from + 1) n (λ j above below. fail j (omega arith) (omega arith)))

-- where there is none, no number passes
pub find_in_range-all : (test : ℕ → Bool) (from n : ℕ) → find test (range_with_len from n) ≡ None → (j : ℕ) →
    from ≤ j → j < from + n → test j ≡ false
find_in_range-all test from zero none j low high = absurd (omega arith)
find_in_range-all test from (suc n) none j low high = elim (cases_Bool (test from)) [
  | inl passes ↦ let found : find test (range_with_len from (suc n)) ≡ Some from = rw passes refl in cc
  | inr fails ↦
      let later : find test (range_with_len (from + 1) n) ≡ None = rw fails at none in
      elim (cases_order j from) [
        | inl same ↦ ap test same ∙ fails
        | inr other ↦ find_in_range-all test (from + 1) n later j (omega arith) (omega arith)
      ]
]

-- where some element passes, there is one, whatever comes after
pub find-some_passes : {X : Type 0} (p : X → Bool) (xs : List X) (other : Option X) → list_any p xs ≡ true → option_or (find p xs) other ≡ find p xs
find-some_passes p [] other some = absurd (cc)
find-some_passes p (x ∷ xs) other some = grind (arith, find-some_passes p xs other)

-- a search among images
pub find-map : {X Y : Type 0} (p : Y → Bool) (f : X → Y) (xs : List X) → find p (map f xs) ≡ option_map f (find (λ x. p (f x)) xs)
find-map p f [] = refl
find-map p f (x ∷ xs) = grind (arith, find-map p f xs)

-- What tests keep of a list.
use Rattle.std.proofs.Common.{◌≡◌, ℕ, ◌*◌, ◌≤◌, Bool, true, List, [], ◌∷◌, ◌++◌, length, filter, ◌≢◌, ◌+◌, false, zero-add}
use Rattle.std.proofs.Common.{refl, sym, ap, ◌∙◌, arith, inl, inr, All}
use Rattle.std.proofs.lemmas.Bool.{cases_Bool}
use Rattle.std.proofs.lemmas.Bool.Decides.{nat_tests}
use Rattle.std.proofs.lemmas.List.{append-nil, reverse-append}
use Rattle.std.specs.Prelude.{◌&&◌, ◌==◌, if◌then◌else◌, reverse, not}
use Rattle.std.specs.List.{flat_map, sum_by}
use Rattle.std.proofs.lemmas.List.Elements.{All-head, All-tail, filter-append}
use Rattle.std.proofs.lemmas.List.Sums.{sum_by-cons}

module _ {X : Type 0} where
  -- a test that is true on all keeps all
  pub filter-all : (p : X → Bool) (xs : List X) → All (λ x. p x ≡ true) xs → filter p xs ≡ xs
  filter-all p [] each = refl
  filter-all p (x ∷ xs) each =
      let P : X → Type 0 = λ y. p y ≡ true in
      grind (arith, All-head P x xs each, filter-all p xs (All-tail P x xs each))

  -- one or none each
  pub flat_map_if : (p : X → Bool) (xs : List X) → flat_map (λ x. if p x then x ∷ [] else []) xs ≡ filter p xs
  flat_map_if p [] = refl
  flat_map_if p (x ∷ xs) = grind (arith, flat_map_if p xs)

  -- so much for each that passes a test
  pub sum_by_if : (k : ℕ) (p : X → Bool) (xs : List X)
      → sum_by (λ x. if p x then k else 0) xs ≡ k * length (filter p xs)
  sum_by_if k p [] = omega arith
  sum_by_if k p (x ∷ xs) =
      sum_by-cons (λ y. if p y then k else 0) x xs ∙ elim (cases_Bool (p x)) [
        | inl holds ↦ let rest = sum_by_if k p xs in rw holds (omega arith)
        | inr fails ↦ let rest = sum_by_if k p xs in rw fails (omega arith)
      ]

  -- a sum over what passes a test
  pub sum_by-filter : (f : X → ℕ) (p : X → Bool) (xs : List X)
      → sum_by f (filter p xs) ≡ sum_by (λ x. if p x then f x else 0) xs
  sum_by-filter f p [] = refl
  sum_by-filter f p (x ∷ xs) =
      grind (
        arith,
        sum_by-filter f p xs,
        sum_by-cons f x (filter p xs),
        sum_by-cons (λ y. if p y then f y else 0) x xs,
      )

-- a sum over what passes a test, with one element more in front, which is left out or not
pub sum_by-filter_more : {X : Type 0} (f : X → ℕ) (p : X → Bool) (x : X) (xs : List X) (left_out : Bool) → p x ≡ not left_out →
    sum_by f (filter p (x ∷ xs)) ≡ (if left_out then 0 else f x) + sum_by f (filter p xs)
sum_by-filter_more f p x xs true is = rw is (sym (zero-add _))
sum_by-filter_more f p x xs false is = rw is (sum_by-cons f x (filter p xs))

-- of two tests
module _ {X : Type 0} (a b : X → Bool) where
  -- both, one after the other
  pub filter_and : (xs : List X) → filter (λ x. a x && b x) xs ≡ filter a (filter b xs)
  filter_and [] = refl
  filter_and (x ∷ xs) = grind (arith, filter_and xs)

  -- what a test keeps does not change where another test took only what it keeps not
  pub filter_implied : (xs : List X) → All (λ x. a x ≡ true → b x ≡ true) xs → filter a (filter b xs) ≡ filter a xs
  filter_implied [] each = refl
  filter_implied (x ∷ xs) each =
      let P : X → Type 0 = λ y. a y ≡ true → b y ≡ true in
      grind (arith, All-head P x xs each, filter_implied xs (All-tail P x xs each))

  -- a test keeps at most as many as another that it implies
  pub length-filter-le : (xs : List X) → All (λ x. a x ≡ true → b x ≡ true) xs
      → length (filter a xs) ≤ length (filter b xs)
  length-filter-le [] each = omega arith
  length-filter-le (x ∷ xs) each =
      let P : X → Type 0 = λ y. a y ≡ true → b y ≡ true in
      grind (arith, All-head P x xs each, length-filter-le xs (All-tail P x xs each))

  -- a test keeps no more, in sum, than another that it implies
  pub sum_by-filter-le : (f : X → ℕ) (xs : List X) → All (λ x. a x ≡ true → b x ≡ true) xs
      → sum_by f (filter a xs) ≤ sum_by f (filter b xs)
  sum_by-filter-le f [] each = omega arith
  sum_by-filter-le f (x ∷ xs) each =
      let P : X → Type 0 = λ y. a y ≡ true → b y ≡ true in
      let rest = sum_by-filter-le f xs (All-tail P x xs each) in
      grind (arith, All-head P x xs each, rest, sum_by-cons f x (filter a xs), sum_by-cons f x (filter b xs))

-- what passes, from the last on
pub filter-reverse : {X : Type 0} (p : X → Bool) (xs : List X) → filter p (reverse xs) ≡ reverse (filter p xs)
filter-reverse p [] = refl
filter-reverse p (x ∷ xs) =
    ap (filter p) (reverse-append (x ∷ []) xs) ∙ filter-append p (reverse xs) (x ∷ [])
    ∙ ap (λ ys. ys ++ filter p (x ∷ [])) (filter-reverse p xs) ∙ elim (cases_Bool (p x)) [
      | inl holds ↦ rw holds (sym (reverse-append (x ∷ []) (filter p xs)))
      | inr fails ↦ rw fails (append-nil (reverse (filter p xs)))
    ]

module _ {X : Type 0} (passes : X → Bool) (key : X → ℕ) (own : ℕ) (one_key : (x : X) → passes x ≡ true → key x ≡ own) where
  -- where all that pass have one key, no other key matters
  pub filter-own_key : (xs : List X) → filter passes (filter (λ x. key x == own) xs) ≡ filter passes xs
  filter-own_key [] = refl
  filter-own_key (x ∷ xs) = grind (arith, nat_tests, one_key x, filter-own_key xs)

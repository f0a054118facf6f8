-- What comes once at most.
use Rattle.std.proofs.Common.{◌≡◌, ℕ, zero, suc, ◌+◌, ◌<◌, ◌≤◌, true, false, List, [], ◌∷◌, All, refl, ◌∙◌, arith, inl, inr}
use Rattle.std.specs.Prelude.{◌==◌, nat_lt, if◌then◌else◌}
use Rattle.std.specs.List.{AllByRecursion, range_with_len, sum_by}
use Rattle.std.specs.Ordering.{eq_by_cmp}
use Rattle.std.proofs.lemmas.Bool.{cases_Bool, eq-eqb}
use Rattle.std.proofs.lemmas.Bool.Decides.{nat_tests}
use Rattle.std.proofs.lemmas.List.Elements.{All-from_recursion, All-head, All-tail}
use Rattle.std.proofs.lemmas.List.Folds.{list_any_none}
use Rattle.std.proofs.lemmas.List.Sums.{sum_by-cons}
use Rattle.list_laws.specs.Ordered.{AreApart}
use Rattle.list_laws.proofs.SumLemmas.{sum_by-range_agree, sum_by-zeros}
use Rattle.track_types.specs.ByFilter.{near_order}
use Rattle.track_types.specs.declared.near.Near.{Near}
use Rattle.nearest_search.proofs.FoundLemmas.{nears-apart}

-- nothing adds up to nothing
pub sum_by-none : {X : Type 0} (f : X → ℕ) (xs : List X) → All (λ x. f x ≡ 0) xs → sum_by f xs ≡ 0
sum_by-none f [] none = refl
sum_by-none f (x ∷ xs) none =
    omega (
      arith,
      sum_by-cons f x xs,
      All-head (λ y. f y ≡ 0) x xs none,
      sum_by-none f xs (All-tail (λ y. f y ≡ 0) x xs none),
    )

-- numbers of which one is above 0, and then 1, add up to one at most
module _ (f : ℕ → ℕ) (low : (j : ℕ) → f j ≤ 1) (one : (i j : ℕ) → 0 < f i → 0 < f j → i ≡ j) where
  pub range-once : (from n : ℕ) → sum_by f (range_with_len from n) ≤ 1
  range-once from zero = omega arith
  range-once from (suc n) = elim (cases_Bool (nat_lt 0 (f from))) [
    | inl some ↦
        let own : 0 < f from = grind (arith, nat_tests) in
        let rest : sum_by f (range_with_len (from + 1) n) ≡ 0 =
        sum_by-range_agree f (λ _. 0) (from + 1) n (λ j low high. none j own low)
        ∙ sum_by-zeros (range_with_len (from + 1) n) in
        omega (arith, sum_by-cons f from (range_with_len (from + 1) n), rest, low from)
    | inr gone ↦
        let own : f from ≡ 0 = grind (arith, nat_tests) in
        omega (arith, sum_by-cons f from (range_with_len (from + 1) n), own, range-once (from + 1) n)
  ]
    where
      none : (j : ℕ) → 0 < f from → from + 1 ≤ j → f j ≡ 0
      none j own later = elim (cases_Bool (nat_lt 0 (f j))) [
        | inl some ↦
            let its : 0 < f j = grind (arith, nat_tests) in
            let same = one from j own its in
            absurd (omega (arith, same, later))
        | inr gone ↦ grind (arith, nat_tests)
      ]

-- one for each of an object
abbrev pub has_object : ℕ → Near → ℕ
has_object object near = if near.object == object then 1 else 0

-- where none is of an object, one of it ties with none
pub apart-none : (near : Near) (nears : List Near) → sum_by (has_object near.object) nears ≡ 0
    → AllByRecursion (λ other. eq_by_cmp near_order near other ≡ false) nears
apart-none near [] none = tt
apart-none near (other ∷ nears) none =
    let sum = sum_by-cons (has_object near.object) other nears in
    let rest : sum_by (has_object near.object) nears ≡ 0 = omega (arith, sum, none) in
    let here : has_object near.object other ≡ 0 = omega (arith, sum, none) in (
      nears-apart near other (λ same.
          let its : (other.object == near.object) ≡ true = grind (arith, nat_tests, same) in
          let one : has_object near.object other ≡ 1 = rw its refl in
          omega (arith, here, one)),
      apart-none near nears rest,
    )

-- where there is one of each object at most, no two tie
pub apart-once : (nears : List Near) → ((object : ℕ) → sum_by (has_object object) nears ≤ 1) → AreApart near_order nears
apart-once [] once = tt
apart-once (near ∷ nears) once =
    let its : (near.object == near.object) ≡ true = eq-eqb near.object near.object refl in
    let own : has_object near.object near ≡ 1 = rw its refl in
    let rest : sum_by (has_object near.object) nears ≡ 0 =
    omega (arith, once near.object, sum_by-cons (has_object near.object) near nears, own) in (
      list_any_none (eq_by_cmp near_order near) nears
          (All-from_recursion (λ other. eq_by_cmp near_order near other ≡ false) nears (apart-none near nears rest)),
      apart-once nears (λ object.
          omega (arith, once object, sum_by-cons (has_object object) near nears)),
    )

-- What weighs the same: lists in the order of a key over which every weight adds up to the same.
use Rattle.std.proofs.Common.{◌≡◌, ℕ, suc, ◌<◌, ◌≤◌, true, false, List, [], ◌∷◌, All, refl, ap, sym, ◌∙◌, arith, inl, inr}
use Rattle.std.specs.Prelude.{◌==◌, if◌then◌else◌, ⊤}
use Rattle.std.specs.List.{sum_by}
use Rattle.std.specs.List.Sorted.{IsNonDecreasingBy}
use Rattle.std.proofs.lemmas.Bool.{cases_order, eq-eqb, ne_eqb}
use Rattle.std.proofs.lemmas.List.Elements.{All-head, All-tail}
use Rattle.std.proofs.lemmas.List.Sums.{sum_by-cons}

module _ {X : Type 0} (key : X → ℕ) where
  -- an element weighs 1 where it has a key
  abbrev has_key : ℕ → X → ℕ
  has_key k x = if key x == k then 1 else 0

  -- no key is below that of the element before
  abbrev pub IsRising : List X → Type 0
  IsRising [] = ⊤
  IsRising (x ∷ []) = ⊤
  IsRising (x ∷ y ∷ ys) = (key x ≤ key y) × IsRising (y ∷ ys)

  pub IsRising-from_order : (xs : List X) → IsNonDecreasingBy key xs → IsRising xs
  IsRising-from_order [] rise = tt
  IsRising-from_order (x ∷ []) rise = tt
  IsRising-from_order (x ∷ y ∷ ys) rise = (
    rise 0 1 x (omega arith) (omega arith),
    IsRising-from_order (y ∷ ys) (λ i j d low high. rise (suc i) (suc j) d (omega arith) (omega arith)),
  )

  -- the elements after the first rise too
  IsRising-tail : (x : X) (xs : List X) → IsRising (x ∷ xs) → IsRising xs
  IsRising-tail x [] rise = tt
  IsRising-tail x (y ∷ ys) rise = rise.1

  -- a key below the first one's is not there
  sum_by-has_key : (k : ℕ) (x : X) (xs : List X) → k < key x → IsRising (x ∷ xs)
      → sum_by (has_key k) (x ∷ xs) ≡ 0
  sum_by-has_key k x [] below rise =
      let differs : (key x == k) ≡ false = ne_eqb (key x) k (λ same. omega (arith, same)) in
      sum_by-cons (has_key k) x [] ∙ (rw differs refl)
  sum_by-has_key k x (y ∷ ys) below rise =
      let differs : (key x == k) ≡ false = ne_eqb (key x) k (λ same. omega (arith, same)) in
      let rest = sum_by-has_key k y ys (omega (arith, rise.0)) rise.1 in
      let none : has_key k x ≡ 0 = rw differs refl in
      omega (arith, sum_by-cons (has_key k) x (y ∷ ys), rest, none)

  -- a first element with a key below that of another list's first
  below-absurd : {P : Type 0} (x y : X) (xs ys : List X) → IsRising (y ∷ ys)
      → sum_by (has_key (key x)) (x ∷ xs) ≡ sum_by (has_key (key x)) (y ∷ ys) → key x < key y → P
  below-absurd x y xs ys rise same less =
      let its : (key x == key x) ≡ true = eq-eqb (key x) (key x) refl in
      let one : has_key (key x) x ≡ 1 = rw its refl in
      absurd (omega (
        arith,
        sum_by-cons (has_key (key x)) x xs,
        one,
        same,
        sum_by-has_key (key x) y ys less rise,
      ))

  module _ (P : X → Type 0) (one : (x y : X) → P x → P y → key x ≡ key y → x ≡ y) where
    -- Lists in the order of a key, with at most one element of each, are equal where every weight adds up to the same.
    pub same_from_weights : (xs ys : List X) → All P xs → All P ys → IsRising xs → IsRising ys
        → ((weight : X → ℕ) → sum_by weight xs ≡ sum_by weight ys) → xs ≡ ys
    same_from_weights [] [] all also rise up weigh = refl
    same_from_weights [] (y ∷ ys) all also rise up weigh =
        absurd (omega (arith, weigh (λ _. 1), sum_by-cons (λ _. 1) y ys))
    same_from_weights (x ∷ xs) [] all also rise up weigh =
        absurd (omega (arith, weigh (λ _. 1), sum_by-cons (λ _. 1) x xs))
    same_from_weights (x ∷ xs) (y ∷ ys) all also rise up weigh =
        let same : key x ≡ key y = elim (cases_order (key x) (key y)) [
          | inl equal ↦ equal
          | inr differ ↦ elim differ [
            | inl less ↦ below-absurd x y xs ys up (weigh (has_key (key x))) less
            | inr more ↦ below-absurd y x ys xs rise (sym (weigh (has_key (key y)))) more
          ]
        ] in
        let first : x ≡ y = one x y (All-head P x xs all) (All-head P y ys also) same in
        let rest : xs ≡ ys =
        same_from_weights xs ys (All-tail P x xs all) (All-tail P y ys also) (IsRising-tail x xs rise)
        (IsRising-tail y ys up)
        (λ weight.
        omega (arith, sum_by-cons weight x xs, sum_by-cons weight y ys, ap weight first, weigh weight)) in
        cc

-- Elements of a list, as many and each above the one before, are all of the list.
use Rattle.std.proofs.Common.{◌≡◌, zero, suc, List, [], ◌∷◌, ◌++◌, length, take, drop, inl, inr, sym, subst, ap, ◌∙◌, arith, Ordering}
use Rattle.std.specs.Cmp.{IsTotalOrder}
use Rattle.std.specs.List.{AllByRecursion, Contains}
use Rattle.std.specs.List.Sorted.{IsPermutation, IsStrictlySortedBy}
use Rattle.std.specs.declared.cmp.Ordering.TheVariants.{Less}
use Rattle.std.proofs.Math.Seq.{split_at}
use Rattle.std.proofs.lemmas.List.{length-append}
use Rattle.std.proofs.lemmas.List.Elements.{Contains-append_cases, Contains-append_left, Contains-append_right}
use Rattle.std.proofs.lemmas.List.Sorted.{IsPermutation-cons, IsPermutation-middle, IsPermutation-refl, IsPermutation-trans}

module _ {X : Type 0} where
  -- an element is also in what is left without another one
  behind_other : (x y : X) (ys : List X) → (x ≡ y → ⊥) → Contains (y ∷ ys) x → Contains ys x
  behind_other x y ys differ (zero, within, is) = absurd (differ (sym is))
  behind_other x y ys differ (suc k, within, is) = (k, omega arith, is)

  beside_other : (x y : X) (xs ys : List X) → (x ≡ y → ⊥) → Contains (xs ++ y ∷ ys) x → Contains (xs ++ ys) x
  beside_other x y xs ys differ inside = elim (Contains-append_cases xs (y ∷ ys) x inside) [
    | inl before ↦ Contains-append_left xs ys x before
    | inr after ↦ Contains-append_right xs ys x (behind_other x y ys differ after)
  ]

module _ {X : Type 0} {R : X → X → Ordering} (o : IsTotalOrder R) where
  above_differ : (y z : X) → R y z ≡ Less → z ≡ y → ⊥
  above_differ y z above same = let less = subst (λ w. R y w ≡ Less) same above in let never = o.antisymm y y in absurd (cc (less, never))

  -- so are all that are above it
  beside_lower : (y : X) (xs zs ys : List X) → AllByRecursion (λ z. R y z ≡ Less) ys
      → AllByRecursion (Contains (xs ++ y ∷ zs)) ys → AllByRecursion (Contains (xs ++ zs)) ys
  beside_lower y xs zs [] above all = tt
  beside_lower y xs zs (z ∷ ys) above all = (
    beside_other z y xs zs (above_differ y z above.0) all.0,
    beside_lower y xs zs ys above.1 all.1,
  )

  pub permutation_from_strict : (xs ys : List X) → IsStrictlySortedBy R ys → AllByRecursion (Contains xs) ys
      → length ys ≡ length xs → IsPermutation xs ys
  unfolding IsStrictlySortedBy
  permutation_from_strict [] [] up all same = IsPermutation-refl []
  permutation_from_strict (x ∷ xs) [] up all same = absurd (omega arith)
  permutation_from_strict xs (y ∷ ys) up all same =
      let k = all.0.0 in
      let before = take k xs in
      let after = drop (suc k) xs in
      let cut : xs ≡ before ++ y ∷ after =
      split_at xs k y all.0.1 ∙ ap (λ z. before ++ z ∷ after) all.0.2 in
      let others = beside_lower y before after ys up.0 (subst (λ all. AllByRecursion (Contains all) ys) cut all.1) in
      let long : length ys ≡ length (before ++ after) =
      omega (arith, ap length cut, length-append before (y ∷ after), length-append before after) in
      subst (λ whole. IsPermutation whole (y ∷ ys)) (sym cut)
      (IsPermutation-trans (before ++ y ∷ after) (y ∷ (before ++ after)) (y ∷ ys)
      (IsPermutation-middle before y after)
      (IsPermutation-cons y (before ++ after) ys
      (permutation_from_strict (before ++ after) ys up.1 others long)))

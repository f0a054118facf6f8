-- Lists of which no two elements tie: their parts, and that any sort puts them in the one strict order.
use Rattle.std.proofs.Common.{◌≡◌, false, List, [], ◌∷◌, ◌++◌, Ordering, refl, sym, subst, ◌∙◌, ap}
use Rattle.std.specs.Cmp.{IsTotalOrder}
use Rattle.std.specs.List.{AllByRecursion, Contains, IsDistinct, dedup, dedup_from, list_any}
use Rattle.std.specs.List.Sorted.{IsPermutation, IsSorted, IsStrictlySortedBy}
use Rattle.std.specs.Ordering.{eq_by_cmp}
use Rattle.std.proofs.lemmas.Cmp.{eq_by_cmp_equiv}
use Rattle.std.proofs.lemmas.List.Folds.{list_any-append}
use Rattle.std.proofs.lemmas.List.Kept.{IsStrictlySortedBy-dedup}
use Rattle.std.proofs.lemmas.List.Sorted.{Contains-permutation, IsPermutation-sym, IsPermutation-trans}
use Rattle.std.proofs.lemmas.Map.Keys.{IsDistinct-IsPermutation, IsDistinct-from_sorted}
use Rattle.list_laws.specs.Ordered.{AreApart, ordered}
use Rattle.list_laws.proofs.AscendingLemmas.{same_from_members}
use Rattle.list_laws.proofs.MemberLemmas.{first_member, later_member}
use Rattle.list_laws.proofs.OrderedLemmas.{IsPermutation-ordered, IsStrictlySortedBy-ordered}

module _ {X : Type 0} (order : X → X → Ordering) where
  any-none : (x : X) (ys : List X) → AllByRecursion (λ y. eq_by_cmp order x y ≡ false) ys → list_any (eq_by_cmp order x) ys ≡ false
  any-none x [] all = refl
  any-none x (y ∷ ys) all = rw (all.0) (any-none x ys all.1)

  -- no two of distinct elements tie, so no two in strict order
  pub AreApart-distinct : (xs : List X) → IsDistinct (eq_by_cmp order) xs → AreApart order xs
  unfolding IsDistinct
  AreApart-distinct [] all = tt
  AreApart-distinct (x ∷ xs) all = (any-none x xs all.0, AreApart-distinct xs all.1)

  pub AreApart-sorted : (xs : List X) → IsStrictlySortedBy order xs → AreApart order xs
  AreApart-sorted xs up = AreApart-distinct xs (IsDistinct-from_sorted order xs up)

  -- nor do two of lists of which no element of the first ties with one of the second
  pub AreApart-append : (xs ys : List X) → AreApart order xs → AreApart order ys
      → ((x : X) → Contains xs x → list_any (eq_by_cmp order x) ys ≡ false) → AreApart order (xs ++ ys)
  AreApart-append [] ys apart also across = also
  AreApart-append (x ∷ xs) ys apart also across = (
    list_any-append (eq_by_cmp order x) xs ys ∙ rw (apart.0) (across x (first_member x xs)),
    AreApart-append xs ys apart.1 also (λ y inside. across y (later_member y x xs inside)),
  )

  -- nor do two of those after
  pub AreApart-behind : (xs ys : List X) → AreApart order (xs ++ ys) → AreApart order ys
  AreApart-behind [] ys apart = apart
  AreApart-behind (x ∷ xs) ys apart = AreApart-behind xs ys apart.1

module _ {X : Type 0} {R : X → X → Ordering} (o : IsTotalOrder R) where
  distinct-moved : (xs ys : List X) → IsStrictlySortedBy R xs → IsPermutation xs ys → IsDistinct (eq_by_cmp R) ys
  distinct-moved xs ys up moved =
      IsDistinct-IsPermutation (eq_by_cmp R) (eq_by_cmp_equiv o).symm xs ys moved (IsDistinct-from_sorted R xs up)

  same_strict : (xs ys : List X) → IsStrictlySortedBy R xs → IsStrictlySortedBy R ys → IsPermutation xs ys → xs ≡ ys
  same_strict xs ys up also moved =
      same_from_members o xs ys up also (λ z. Contains-permutation xs ys z moved)
      (λ z. Contains-permutation ys xs z (IsPermutation-sym xs ys moved))

  dedup-distinct_from : (x : X) (xs : List X) → IsDistinct (eq_by_cmp R) (x ∷ xs) → dedup_from (eq_by_cmp R) x xs ≡ x ∷ xs
  unfolding IsDistinct
  dedup-distinct_from x [] apart = refl
  dedup-distinct_from x (y ∷ ys) apart =
      let differ : eq_by_cmp R y x ≡ false = (eq_by_cmp_equiv o).symm y x ∙ apart.0.0 in
      rw differ (ap (λ zs. x ∷ zs) (dedup-distinct_from y ys apart.1))

  dedup-distinct : (xs : List X) → IsDistinct (eq_by_cmp R) xs → dedup (eq_by_cmp R) xs ≡ xs
  dedup-distinct [] apart = refl
  dedup-distinct (x ∷ xs) apart = dedup-distinct_from x xs apart

  -- a sort of a list in strict order leaves it
  pub same_from_sorted : (xs ys : List X) → IsStrictlySortedBy R xs → IsPermutation xs ys → IsSorted R ys → ys ≡ xs
  same_from_sorted xs ys up moved sorted =
      let strict : IsStrictlySortedBy R ys =
      subst (IsStrictlySortedBy R) (dedup-distinct ys (distinct-moved xs ys up moved))
      (IsStrictlySortedBy-dedup o (λ x y. refl) ys sorted) in
      sym (same_strict xs ys up strict moved)

  -- lists of which no two elements tie are put in order by any sort
  pub ordered_from_sorted : (xs ys : List X) → AreApart R xs → IsPermutation xs ys → IsSorted R ys → ys ≡ ordered R xs
  ordered_from_sorted xs ys apart moved sorted =
      same_from_sorted (ordered R xs) ys (IsStrictlySortedBy-ordered R o xs apart)
      (IsPermutation-trans (ordered R xs) xs ys (IsPermutation-sym xs (ordered R xs) (IsPermutation-ordered R xs)) moved) sorted

  -- a list in strict order is what its elements are, put in order
  pub ordered-permutation : (xs ys : List X) → IsStrictlySortedBy R xs → IsPermutation xs ys → xs ≡ ordered R ys
  ordered-permutation xs ys up moved =
      same_strict xs (ordered R ys) up
      (IsStrictlySortedBy-ordered R o ys (AreApart-distinct R ys (distinct-moved xs ys up moved)))
      (IsPermutation-trans xs ys (ordered R ys) moved (IsPermutation-ordered R ys))

-- Two lists in strict order, merged: they are both put together.
use Rattle.std.proofs.Common.{◌≡◌, true, false, List, [], ◌∷◌, find, map, Ordering, Option, None, Some, refl, sym, ◌∙◌, ap, inl, inr}
use Rattle.std.specs.Cmp.{IsTotalOrder}
use Rattle.std.specs.List.{AllByRecursion}
use Rattle.std.specs.List.Sorted.{IsStrictlySortedBy}
use Rattle.std.specs.Option.{option_or}
use Rattle.std.specs.Ordering.{eq_by_cmp, is_eq, match_ordering, ordering_reverse}
use Rattle.std.specs.declared.cmp.Ordering.TheVariants.{Less, Equal, Greater}
use Rattle.std.proofs.lemmas.Bool.{cases_Bool}
use Rattle.std.proofs.lemmas.Cmp.{eq_by_cmp_equiv}
use Rattle.list_laws.proofs.AscendingLemmas.{same_from_finds}
use Rattle.path_union.specs.Merge.{merge_of}
use Rattle.path_union.proofs.UnionLemmas.{IsStrictlySortedBy-union_of, alike_tied, find-union_of, union_of}

-- what holds in each of the three cases
pub by_order : {X : Type 0} (P : X → Type 0) (a : Ordering) (less equal greater : X) → (a ≡ Less → P less) → (a ≡ Equal → P equal)
    → (a ≡ Greater → P greater) → P (match_ordering a less equal greater)
by_order P Less less equal greater first second third = first refl
by_order P Equal less equal greater first second third = second refl
by_order P Greater less equal greater first second third = third refl

all-weaker : {X : Type 0} (P Q : X → Type 0) → ((x : X) → P x → Q x) → (xs : List X) → AllByRecursion P xs → AllByRecursion Q xs
all-weaker P Q from [] all = tt
all-weaker P Q from (x ∷ xs) all = (from x all.0, all-weaker P Q from xs all.1)

module _ {X : Type 0} (R : X → X → Ordering) where
  -- what holds of all elements of both lists
  pub all-merge_of : (P : X → Type 0) (xs ys : List X) → AllByRecursion P xs → AllByRecursion P ys → AllByRecursion P (merge_of R xs ys)
  unfolding merge_of
  all-merge_of P [] ys all also = also
  all-merge_of P (x ∷ xs) [] all also = all
  all-merge_of P (x ∷ xs) (y ∷ ys) all also =
      by_order (AllByRecursion P) (R x y) _ _ _
      (λ is. (all.0, all-merge_of P xs (y ∷ ys) all.1 also))
      (λ is. (all.0, all-merge_of P xs ys all.1 also.1))
      (λ is. (also.0, all-merge_of P (x ∷ xs) ys all also.1))

module _ {X : Type 0} {R : X → X → Ordering} (o : IsTotalOrder R) where
  back : (x y : X) → R x y ≡ Greater → R y x ≡ Less
  back x y is = o.antisymm y x ∙ ap ordering_reverse is

  after-less : (x y : X) (ys : List X) → R x y ≡ Less → AllByRecursion (λ z. R y z ≡ Less) ys → AllByRecursion (λ z. R x z ≡ Less) ys
  after-less x y ys less all = all-weaker (λ z. R y z ≡ Less) (λ z. R x z ≡ Less) (λ z below. o.trans x y z less below) ys all

  after-equal : (x y : X) (ys : List X) → R x y ≡ Equal → AllByRecursion (λ z. R y z ≡ Less) ys → AllByRecursion (λ z. R x z ≡ Less) ys
  after-equal x y ys same all = all-weaker (λ z. R y z ≡ Less) (λ z. R x z ≡ Less) (λ z below. o.congr x y z same ∙ below) ys all

  pub IsStrictlySortedBy-merge_of : (xs ys : List X) → IsStrictlySortedBy R xs → IsStrictlySortedBy R ys → IsStrictlySortedBy R (merge_of R xs ys)
  unfolding merge_of IsStrictlySortedBy
  IsStrictlySortedBy-merge_of [] ys up also = also
  IsStrictlySortedBy-merge_of (x ∷ xs) [] up also = up
  IsStrictlySortedBy-merge_of (x ∷ xs) (y ∷ ys) up also =
      by_order (IsStrictlySortedBy R) (R x y) _ _ _
      (λ less. (
        all-merge_of R (λ z. R x z ≡ Less) xs (y ∷ ys) up.0 (less, after-less x y ys less also.0),
        IsStrictlySortedBy-merge_of xs (y ∷ ys) up.1 also,
      ))
      (λ same. (
        all-merge_of R (λ z. R x z ≡ Less) xs ys up.0 (after-equal x y ys same also.0),
        IsStrictlySortedBy-merge_of xs ys up.1 also.1,
      ))
      (λ more. (
        all-merge_of R (λ z. R y z ≡ Less) (x ∷ xs) ys (back x y more, after-less y x xs (back x y more) up.0) also.0,
        IsStrictlySortedBy-merge_of (x ∷ xs) ys up also.1,
      ))

  -- nothing before the first ties with one of those after it
  none-tied : (z y : X) (xs : List X) → eq_by_cmp R z y ≡ true → AllByRecursion (λ x. R y x ≡ Less) xs → find (eq_by_cmp R z) xs ≡ None
  none-tied z y [] tie all = refl
  none-tied z y (x ∷ xs) tie all =
      let differ : eq_by_cmp R z x ≡ false = alike_tied o z y x tie ∙ ap is_eq all.0 in
      rw differ (none-tied z y xs tie all.1)

  find-or_none : {A : Type 0} (a : Option A) → option_or a None ≡ a
  find-or_none None = refl
  find-or_none (Some a) = refl

  -- a search finds what it finds in the first, or else in the second
  find-merge_of : (z : X) (xs ys : List X) → IsStrictlySortedBy R xs → IsStrictlySortedBy R ys
      → find (eq_by_cmp R z) (merge_of R xs ys) ≡ option_or (find (eq_by_cmp R z) xs) (find (eq_by_cmp R z) ys)
  unfolding merge_of IsStrictlySortedBy
  find-merge_of z [] ys up also = refl
  find-merge_of z (x ∷ xs) [] up also = sym (find-or_none (find (eq_by_cmp R z) (x ∷ xs)))
  find-merge_of z (x ∷ xs) (y ∷ ys) up also =
      by_order (λ zs. find (eq_by_cmp R z) zs ≡ option_or (find (eq_by_cmp R z) (x ∷ xs)) (find (eq_by_cmp R z) (y ∷ ys)))
      (R x y) _ _ _
      (λ less. elim (cases_Bool (eq_by_cmp R z x)) [
        | inl tie ↦ rw tie refl
        | inr apart ↦ rw apart (find-merge_of z xs (y ∷ ys) up.1 also)
      ])
      (λ same. elim (cases_Bool (eq_by_cmp R z x)) [
        | inl tie ↦ rw tie refl
        | inr apart ↦
            let other : eq_by_cmp R z y ≡ false = (eq_by_cmp_equiv o).symm z y ∙ sym (alike_tied o x y z (ap is_eq same)) ∙ (eq_by_cmp_equiv o).symm x z ∙ apart in
            rw (apart, other) (find-merge_of z xs ys up.1 also.1)
      ])
      (λ more. elim (cases_Bool (eq_by_cmp R z y)) [
        | inl tie ↦
            let none = none-tied z y (x ∷ xs) tie (back x y more, after-less y x xs (back x y more) up.0) in
            rw (none, tie) refl
        | inr apart ↦ rw apart (find-merge_of z (x ∷ xs) ys up also.1)
      ])

  -- merged they are both put together
  pub merge_of-union_of : (xs ys : List X) → IsStrictlySortedBy R xs → IsStrictlySortedBy R ys → union_of o xs ys ≡ merge_of R xs ys
  merge_of-union_of xs ys up also =
      same_from_finds o (union_of o xs ys) (merge_of R xs ys)
      (IsStrictlySortedBy-union_of o xs ys up also) (IsStrictlySortedBy-merge_of xs ys up also)
      (λ z. find-union_of o z xs ys ∙ sym (find-merge_of z xs ys up also))

-- what is made of elements, where their order is that of what is made of them
module _ {X Y : Type 0} (R : X → X → Ordering) (S : Y → Y → Ordering) (f : X → Y) (P : X → Type 0)
    (same : (a b : X) → P a → P b → R a b ≡ S (f a) (f b)) where
  pub map-merge_of : (xs ys : List X) → AllByRecursion P xs → AllByRecursion P ys
      → map f (merge_of R xs ys) ≡ merge_of S (map f xs) (map f ys)
  unfolding merge_of
  map-merge_of [] ys all also = refl
  map-merge_of (x ∷ xs) [] all also = refl
  map-merge_of (x ∷ xs) (y ∷ ys) all also =
      by_order (λ zs. map f zs ≡ match_ordering (R x y) (f x ∷ merge_of S (map f xs) (f y ∷ map f ys))
      (f x ∷ merge_of S (map f xs) (map f ys)) (f y ∷ merge_of S (f x ∷ map f xs) (map f ys))) (R x y) _ _ _
      (λ less. rw less (ap (λ zs. f x ∷ zs) (map-merge_of xs (y ∷ ys) all.1 also)))
      (λ tie. rw tie (ap (λ zs. f x ∷ zs) (map-merge_of xs ys all.1 also.1)))
      (λ more. rw more (ap (λ zs. f y ∷ zs) (map-merge_of (x ∷ xs) ys all also.1)))
      ∙ ap (λ a. match_ordering a (f x ∷ merge_of S (map f xs) (f y ∷ map f ys))
      (f x ∷ merge_of S (map f xs) (map f ys)) (f y ∷ merge_of S (f x ∷ map f xs) (map f ys))) (same x y all.0 also.0)

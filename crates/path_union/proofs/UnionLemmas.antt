-- Lists in strict order, put together: what the first has, and of the second what ties with none of the first.
use Rattle.std.proofs.Common.{◌≡◌, Bool, true, false, List, [], ◌∷◌, ◌++◌, filter, find, Ordering, refl, sym, ◌∙◌, ap, arith, inl, inr}
use Rattle.std.specs.Prelude.{not}
use Rattle.std.specs.Cmp.{IsTotalOrder}
use Rattle.std.specs.List.{Contains, list_any}
use Rattle.std.specs.List.Sorted.{IsStrictlySortedBy}
use Rattle.std.specs.Option.{option_or}
use Rattle.std.specs.Ordering.{eq_by_cmp, is_eq, is_lt}
use Rattle.std.specs.declared.cmp.Ordering.TheVariants.{Less, Equal, Greater}
use Rattle.std.proofs.lemmas.Bool.{cases_Bool, not-true}
use Rattle.std.proofs.lemmas.Cmp.{eq_by_cmp_equiv}
use Rattle.std.proofs.lemmas.List.Elements.{filter-append}
use Rattle.std.proofs.lemmas.List.Folds.{find-append}
use Rattle.std.proofs.lemmas.List.Kept.{IsStrictlySortedBy-filter}
use Rattle.list_laws.specs.Ordered.{AreApart, ordered}
use Rattle.list_laws.proofs.KeyedLemmas.{filter_alike}
use Rattle.list_laws.proofs.LeastLemmas.{filter-ordered_apart}
use Rattle.list_laws.proofs.MemberLemmas.{find_cases, list_any-none, member_of_filter, none_from_list_any}
use Rattle.list_laws.proofs.OrderedLemmas.{IsStrictlySortedBy-ordered, IsTied, find-ordered}
use Rattle.list_laws.proofs.ApartLemmas.{AreApart-append, AreApart-sorted}

-- a search for what a filter keeps
find-kept : {X : Type 0} (p q : X → Bool) (ys : List X) → ((y : X) → p y ≡ true → q y ≡ true) → find p (filter q ys) ≡ find p ys
find-kept p q [] kept = refl
find-kept p q (y ∷ ys) kept = elim (cases_Bool (p y)) [
  | inl meets ↦ rw (kept y meets, meets) refl
  | inr fails ↦ elim (cases_Bool (q y)) [
    | inl stays ↦ rw (stays, fails) (find-kept p q ys kept)
    | inr goes ↦ rw (goes, fails) (find-kept p q ys kept)
  ]
]

-- two filters may come in either order
pub filter-swap : {X : Type 0} (p q : X → Bool) (xs : List X) → filter p (filter q xs) ≡ filter q (filter p xs)
filter-swap p q [] = refl
filter-swap p q (x ∷ xs) = grind (arith, filter-swap p q xs)

-- a test for what a filter keeps
any-filter : {X : Type 0} (p q : X → Bool) (xs : List X) → ((x : X) → p x ≡ true → q x ≡ true) → list_any p (filter q xs) ≡ list_any p xs
any-filter p q [] kept = refl
any-filter p q (x ∷ xs) kept = grind (arith, kept x, any-filter p q xs kept)

module _ {X : Type 0} {R : X → X → Ordering} (o : IsTotalOrder R) where
  -- whether one of some ties with an element
  abbrev pub has : List X → X → Bool
  has xs y = list_any (eq_by_cmp R y) xs

  -- those that tie with none of others
  abbrev pub beside : List X → List X → List X
  beside xs ys = filter (λ y. not (has xs y)) ys

  -- the first, and of the second those that tie with none of the first, in order
  abbrev pub union_of : List X → List X → List X
  union_of xs ys = ordered R (xs ++ beside xs ys)

  pub AreApart-beside : (xs ys : List X) → IsStrictlySortedBy R xs → IsStrictlySortedBy R ys → AreApart R (xs ++ beside xs ys)
  AreApart-beside xs ys up also =
      AreApart-append R xs (beside xs ys) (AreApart-sorted R xs up)
      (AreApart-sorted R (beside xs ys) (IsStrictlySortedBy-filter R (λ y. not (has xs y)) ys also))
      (λ x inside. list_any-none (eq_by_cmp R x) (beside xs ys)
      (λ y among. (eq_by_cmp_equiv o).symm x y ∙ none_from_list_any (eq_by_cmp R y) xs x
      (not-true (has xs y) (member_of_filter (λ z. not (has xs z)) ys y among).1) inside))

  pub IsStrictlySortedBy-union_of : (xs ys : List X) → IsStrictlySortedBy R xs → IsStrictlySortedBy R ys → IsStrictlySortedBy R (union_of xs ys)
  IsStrictlySortedBy-union_of xs ys up also = IsStrictlySortedBy-ordered R o (xs ++ beside xs ys) (AreApart-beside xs ys up also)

  -- a test for what ties with an element passes alike for what ties
  pub alike_tied : (x y z : X) → eq_by_cmp R x y ≡ true → eq_by_cmp R x z ≡ eq_by_cmp R y z
  alike_tied = (eq_by_cmp_equiv o).congr

  tied_less : (a : Ordering) → is_eq a ≡ true → is_lt a ≡ false
  tied_less Less tie = absurd (cc)
  tied_less Equal tie = refl
  tied_less Greater tie = absurd (cc)

  tied_test : (z : X) → IsTied R (eq_by_cmp R z)
  tied_test z a b first second = tied_less (R a b) (sym (alike_tied z a b first) ∙ second)

  -- what ties with one of those that others lack is not lacked
  find-beside : (z : X) (xs ys : List X) → ((x : X) → Contains xs x → eq_by_cmp R z x ≡ false)
      → find (eq_by_cmp R z) (beside xs ys) ≡ find (eq_by_cmp R z) ys
  find-beside z xs ys none =
      find-kept (eq_by_cmp R z) (λ y. not (has xs y)) ys
      (λ y tie. ap not (list_any-none (eq_by_cmp R y) xs (λ x inside. sym (alike_tied z y x tie) ∙ none x inside)))

  -- a search in both finds what it finds in the first, or else in the second
  pub find-union_of : (z : X) (xs ys : List X)
      → find (eq_by_cmp R z) (union_of xs ys) ≡ option_or (find (eq_by_cmp R z) xs) (find (eq_by_cmp R z) ys)
  find-union_of z xs ys =
      find-ordered R (eq_by_cmp R z) (tied_test z) (xs ++ beside xs ys)
      ∙ find-append (eq_by_cmp R z) xs (beside xs ys)
      ∙ elim (find_cases (eq_by_cmp R z) xs) [
        | inl none ↦ ap (option_or (find (eq_by_cmp R z) xs)) (find-beside z xs ys none.0)
        | inr found ↦ rw (found.3) refl
      ]

  -- those of both that pass a test, in order
  pub filter-union_of : (p : X → Bool) (xs ys : List X) → IsStrictlySortedBy R xs → IsStrictlySortedBy R ys
      → filter p (union_of xs ys) ≡ ordered R (filter p xs ++ filter p (beside xs ys))
  filter-union_of p xs ys up also =
      filter-ordered_apart R o p (xs ++ beside xs ys) (AreApart-beside xs ys up also)
      ∙ ap (ordered R) (filter-append p xs (beside xs ys))

  -- where the test passes alike for what ties, they are those of the first and those of the second
  pub filter-union_of_alike : (p : X → Bool) → ((x y : X) → eq_by_cmp R x y ≡ true → p x ≡ p y) → (xs ys : List X)
      → IsStrictlySortedBy R xs → IsStrictlySortedBy R ys → filter p (union_of xs ys) ≡ union_of (filter p xs) (filter p ys)
  filter-union_of_alike p alike xs ys up also =
      filter-union_of p xs ys up also
      ∙ ap (λ zs. ordered R (filter p xs ++ zs))
      (filter-swap p (λ y. not (has xs y)) ys
      ∙ filter_alike (λ y. not (has xs y)) (λ y. not (has (filter p xs) y)) (filter p ys)
      (λ y inside. ap not (sym (any-filter (eq_by_cmp R y) p xs
      (λ x tie. sym (alike y x tie) ∙ (member_of_filter p ys y inside).1)))))

-- The first so many of elements in order: they can be kept while the elements come one by one, and they are those before
-- which fewer come.
use Rattle.std.proofs.Common.{◌≡◌, ℕ, zero, suc, Bool, true, false, List, [], ◌∷◌, ◌++◌, length, filter, take}
use Rattle.std.proofs.Common.{Ordering, refl, sym, ◌∙◌, ap, arith, inl, inr}
use Rattle.std.specs.Prelude.{nat_lt}
use Rattle.std.specs.Cmp.{IsTotalOrder}
use Rattle.std.specs.List.{AllByRecursion}
use Rattle.std.specs.List.Sorted.{IsStrictlySortedBy}
use Rattle.std.specs.Ordering.{eq_by_cmp, is_eq, is_lt, ordering_reverse}
use Rattle.std.specs.declared.cmp.Ordering.TheVariants.{Less, Equal, Greater}
use Rattle.std.proofs.lemmas.Bool.{cases_Bool}
use Rattle.std.proofs.lemmas.Bool.Decides.{nat_tests}
use Rattle.std.proofs.lemmas.Cmp.{tied_itself}
use Rattle.std.proofs.lemmas.List.Elements.{filter_agree}
use Rattle.std.proofs.lemmas.List.MinMax.{ranks_by}
use Rattle.std.proofs.lemmas.List.Sorted.{sum_by-IsPermutation}
use Rattle.std.proofs.lemmas.List.Sums.{length-filter}
use Rattle.list_laws.specs.Ordered.{AreApart, ordered, insert_in_order}
use Rattle.list_laws.proofs.OrderedLemmas.{IsPermutation-ordered, IsStrictlySortedBy-ordered}

module _ {X : Type 0} (order : X → X → Ordering) where
  -- an element comes before others, by recursion
  abbrev pub IsBeforeAll : X → List X → Type 0
  IsBeforeAll x ys = AllByRecursion (λ y. is_lt (order y x) ≡ false) ys

  -- it is put in front of those that do not come before it
  pub insert_in_order-first : (x : X) (ys : List X) → IsBeforeAll x ys → insert_in_order order x ys ≡ x ∷ ys
  unfolding insert_in_order
  insert_in_order-first x [] failsne = refl
  insert_in_order-first x (y ∷ ys) none = rw (none.0) refl

  -- and after those that all come before it
  pub insert_in_order-after : (x : X) (ys : List X) → AllByRecursion (λ y. is_lt (order y x) ≡ true) ys
      → insert_in_order order x ys ≡ ys ++ x ∷ []
  unfolding insert_in_order
  insert_in_order-after x [] all = refl
  insert_in_order-after x (y ∷ ys) all = rw (all.0) (ap (λ zs. y ∷ zs) (insert_in_order-after x ys all.1))

  -- a last element that does not come before it stays the last
  pub insert_in_order-before : (x last : X) (ys : List X) → is_lt (order last x) ≡ false
      → insert_in_order order x (ys ++ last ∷ []) ≡ insert_in_order order x ys ++ last ∷ []
  unfolding insert_in_order
  insert_in_order-before x last [] none = rw none refl
  insert_in_order-before x last (y ∷ ys) none = elim (cases_Bool (is_lt (order y x))) [
    | inl before ↦ rw (before) (ap (λ zs. y ∷ zs) (insert_in_order-before x last ys none))
    | inr after ↦ rw (after) refl
  ]

  -- what is taken of fewer is taken of all
  pub take-fewer : (j : ℕ) (ys : List X) → take j ys ≡ take j (take (suc j) ys)
  take-fewer zero ys = refl
  take-fewer (suc j) [] = refl
  take-fewer (suc j) (y ∷ ys) = ap (λ zs. y ∷ zs) (take-fewer j ys)

  take-later : (k : ℕ) (y : X) (ys : List X) → take k (y ∷ ys) ≡ take k (y ∷ take k ys)
  take-later zero y ys = refl
  take-later (suc j) y ys = ap (λ zs. y ∷ zs) (take-fewer j ys)

  -- the first so many need only the first so many
  pub take-insert_in_order : (k : ℕ) (x : X) (ys : List X) → take k (insert_in_order order x ys) ≡ take k (insert_in_order order x (take k ys))
  unfolding insert_in_order
  take-insert_in_order zero x ys = refl
  take-insert_in_order (suc k) x [] = refl
  take-insert_in_order (suc k) x (y ∷ ys) = elim (cases_Bool (is_lt (order y x))) [
    | inl before ↦ rw (before) (ap (λ zs. y ∷ zs) (take-insert_in_order k x ys))
    | inr after ↦ rw (after) (ap (λ zs. x ∷ zs) (take-later k y ys))
  ]

  -- how many of some come before an element
  abbrev pub count_before : List X → X → ℕ
  count_before ys x = length (filter (λ y. is_lt (order y x)) ys)

  -- an element that passes among those in order stays at its place among those that pass
  module _ (o : IsTotalOrder order) (p : X → Bool) where
    not_before : (a b : Ordering) → b ≡ ordering_reverse a → a ≡ Less → is_lt b ≡ false
    not_before Less b is below = rw is refl
    not_before Equal b is below = absurd (cc)
    not_before Greater b is below = absurd (cc)

    -- those after an element in strict order do not come before it
    none-before : (x : X) (ys : List X) → AllByRecursion (λ y. order x y ≡ Less) ys → IsBeforeAll x ys
    none-before x [] all = tt
    none-before x (y ∷ ys) all = (not_before (order x y) (order y x) (o.antisymm y x) all.0, none-before x ys all.1)

    -- what holds of all holds of those that pass
    all-filter : (P : X → Type 0) (ys : List X) → AllByRecursion P ys → AllByRecursion P (filter p ys)
    all-filter P [] all = tt
    all-filter P (y ∷ ys) all = elim (cases_Bool (p y)) [
      | inl meets ↦ rw meets (all.0, all-filter P ys all.1)
      | inr fails ↦ rw fails (all-filter P ys all.1)
    ]

    -- none that comes after an element which does not come before another comes before that
    none-chain : (x y : X) (ys : List X) → is_lt (order y x) ≡ false → AllByRecursion (λ z. order y z ≡ Less) ys
        → IsBeforeAll x ys
    none-chain x y [] after all = tt
    none-chain x y (z ∷ ys) after all = (chain x y z after all.0, none-chain x y ys after all.1)
      where
        chain : (x y z : X) → is_lt (order y x) ≡ false → order y z ≡ Less → is_lt (order z x) ≡ false
        chain x y z after below = elim (cases_Bool (is_lt (order z x))) [
          | inl before ↦
              let less : order y x ≡ Less = o.trans y z x below (less_is (order z x) before) in
              let never : is_lt (order y x) ≡ true = ap is_lt less in absurd (cc)
          | inr none ↦ none
        ]
          where
            less_is : (a : Ordering) → is_lt a ≡ true → a ≡ Less
            less_is Less before = refl
            less_is Equal before = absurd (cc)
            less_is Greater before = absurd (cc)

    filter-placed_yes : (x : X) (ys : List X) → p x ≡ true → IsStrictlySortedBy order ys
        → filter p (insert_in_order order x ys) ≡ insert_in_order order x (filter p ys)
    unfolding insert_in_order IsStrictlySortedBy
    filter-placed_yes x [] meets up = rw meets refl
    filter-placed_yes x (y ∷ ys) meets up = elim (cases_Bool (is_lt (order y x))) [
      | inl before ↦ elim (cases_Bool (p y)) [
        | inl also ↦ rw (before, also, before) (ap (λ zs. y ∷ zs) (filter-placed_yes x ys meets up.1))
        | inr not ↦ rw (before, not) (filter-placed_yes x ys meets up.1)
      ]
      | inr after ↦
          rw (after, meets) (sym (insert_in_order-first x (filter p (y ∷ ys))
          (all-filter (λ z. is_lt (order z x) ≡ false) (y ∷ ys) (after, none-chain x y ys after up.0))))
    ]

    filter-placed_no : (x : X) (ys : List X) → p x ≡ false → filter p (insert_in_order order x ys) ≡ filter p ys
    unfolding insert_in_order
    filter-placed_no x [] fails = rw fails refl
    filter-placed_no x (y ∷ ys) fails = elim (cases_Bool (is_lt (order y x))) [
      | inl before ↦ elim (cases_Bool (p y)) [
        | inl also ↦ rw (before, also) (ap (λ zs. y ∷ zs) (filter-placed_no x ys fails))
        | inr not ↦ rw (before, not) (filter-placed_no x ys fails)
      ]
      | inr after ↦ rw (after, fails) refl
    ]

    -- those that pass, in order, are those in order that pass
    pub filter-ordered_apart : (xs : List X) → AreApart order xs
        → filter p (ordered order xs) ≡ ordered order (filter p xs)
    unfolding ordered
    filter-ordered_apart [] apart = refl
    filter-ordered_apart (x ∷ xs) apart = elim (cases_Bool (p x)) [
      | inl meets ↦
          rw meets (filter-placed_yes x (ordered order xs) meets (IsStrictlySortedBy-ordered order o xs apart.1)
          ∙ ap (insert_in_order order x) (filter-ordered_apart xs apart.1))
      | inr fails ↦ rw fails (filter-placed_no x (ordered order xs) fails ∙ filter-ordered_apart xs apart.1)
    ]

  module _ (o : IsTotalOrder order) where
    -- no element of a strict order comes before the first
    count_before-first : (x : X) (xs : List X) → IsStrictlySortedBy order (x ∷ xs) → count_before (x ∷ xs) x ≡ 0
    unfolding IsStrictlySortedBy
    count_before-first x xs up =
        let itself : order x x ≡ Equal = tied_itself o x in
        rw itself (ap length (none xs (none-before o (λ y. true) x xs up.0)))
      where
        none : (ys : List X) → IsBeforeAll x ys → filter (λ y. is_lt (order y x)) ys ≡ []
        none [] all = refl
        none (y ∷ ys) all = rw (all.0) (none ys all.1)

    next-test : (n k : ℕ) → nat_lt (suc n) (suc k) ≡ nat_lt n k
    next-test n k = grind (arith, nat_tests)

    -- one more comes before each other element than comes before it among the others
    later-agree : (x : X) (k : ℕ) (xs ys : List X) → AllByRecursion (λ y. order x y ≡ Less) ys
        → filter (λ y. nat_lt (count_before (x ∷ xs) y) (suc k)) ys ≡ filter (λ y. nat_lt (count_before xs y) k) ys
    later-agree x k xs [] all = refl
    later-agree x k xs (y ∷ ys) all =
        let same : nat_lt (count_before (x ∷ xs) y) (suc k) ≡ nat_lt (count_before xs y) k =
        rw (all.0) (next-test (count_before xs y) k) in
        elim (cases_Bool (nat_lt (count_before xs y) k)) [
          | inl meets ↦
              let also : nat_lt (count_before (x ∷ xs) y) (suc k) ≡ true = same ∙ meets in
              rw (also, meets) (ap (λ zs. y ∷ zs) (later-agree x k xs ys all.1))
          | inr fails ↦
              let also : nat_lt (count_before (x ∷ xs) y) (suc k) ≡ false = same ∙ fails in
              rw (also, fails) (later-agree x k xs ys all.1)
        ]

    none-below : (q : X → ℕ) (ys : List X) → filter (λ x. nat_lt (q x) 0) ys ≡ []
    none-below q [] = refl
    none-below q (y ∷ ys) = let never : nat_lt (q y) 0 ≡ false = grind (arith, nat_tests) in rw never (none-below q ys)

    -- in strict order, the first so many are those before which fewer come
    pub filter-count_before : (k : ℕ) (xs : List X) → IsStrictlySortedBy order xs
        → filter (λ x. nat_lt (count_before xs x) k) xs ≡ take k xs
    unfolding IsStrictlySortedBy
    filter-count_before zero xs up = none-below (count_before xs) xs
    filter-count_before (suc k) [] up = refl
    filter-count_before (suc k) (x ∷ xs) up =
        let some : nat_lt 0 (suc k) ≡ true = grind (arith, nat_tests) in
        let first : nat_lt (count_before (x ∷ xs) x) (suc k) ≡ true =
        ap (λ n. nat_lt n (suc k)) (count_before-first x xs up) ∙ some in
        rw first
        (ap (λ zs. x ∷ zs) (later-agree x k xs xs up.0 ∙ filter-count_before k xs up.1))

    -- as many come before an element among elements in order
    pub count_before-ordered : (xs : List X) (x : X) → count_before (ordered order xs) x ≡ count_before xs x
    count_before-ordered xs x =
        length-filter (λ y. is_lt (order y x)) (ordered order xs)
        ∙ sum_by-IsPermutation _ xs (ordered order xs) (IsPermutation-ordered order xs)
        ∙ sym (length-filter (λ y. is_lt (order y x)) xs)

    -- those before which fewer come, in order, are the first so many in order
    pub least-take : (k : ℕ) (xs : List X) → AreApart order xs
        → ordered order (filter (λ x. nat_lt (count_before xs x) k) xs) ≡ take k (ordered order xs)
    least-take k xs apart =
        sym (filter-ordered_apart o (λ x. nat_lt (count_before xs x) k) xs apart)
        ∙ filter_agree (λ x. nat_lt (count_before xs x) k) (λ x. nat_lt (count_before (ordered order xs) x) k)
        (λ x. ap (λ n. nat_lt n k) (sym (count_before-ordered xs x))) (ordered order xs)
        ∙ filter-count_before k (ordered order xs) (IsStrictlySortedBy-ordered order o xs apart)

    -- of two that do not tie, one comes before the other
    pub one_before : (x y : X) → eq_by_cmp order x y ≡ false → is_lt (order x y) ≡ false → is_lt (order y x) ≡ true
    one_before x y apart after = go (order x y) (order y x) (o.antisymm y x) apart after
      where
        go : (a b : Ordering) → b ≡ ordering_reverse a → is_eq a ≡ false → is_lt a ≡ false → is_lt b ≡ true
        go Less b is apart after = absurd (cc)
        go Equal b is apart after = absurd (cc)
        go Greater b is apart after = ap is_lt is

    -- what comes after an element that another does not come after comes after that other
    past : (x y z : X) → is_lt (order z y) ≡ false → is_lt (order z x) ≡ true → is_lt (order y x) ≡ true
    past x y z after before = elim (cases_Bool (is_lt (order y x))) [
      | inl meets ↦ meets
      | inr fails ↦
          let never : is_lt (order z x) ≡ false = (ranks_by o (λ (x : X). x)).chain z y x after fails in absurd (cc)
    ]

-- The nearest rows of an instant with a tail: those that an index leaves out, when it is asked for as many more as the tail
-- has rows of the instant, are not among the nearest of both.
use Rattle.std.proofs.Common.{◌≡◌, ◌≤◌, ◌<◌, ◌+◌, ◌-◌, ◌^◌, ◌⊎◌, ℕ, zero, suc, ℤ, Bool, true, false, List, [], ◌∷◌, ◌++◌, Ordering, filter, map, length, take, min, refl, sym, subst, ◌∙◌, ap, arith, inl, inr}
use Rattle.std.specs.Prelude.{drop, nat_lt, not, ◌&&◌, ◌||◌, ◌==◌}
use Rattle.std.specs.Cmp.{IsTotalOrder}
use Rattle.std.specs.List.{AllByRecursion, Contains, IsDistinct}
use Rattle.std.specs.List.Sorted.{IsPermutation, IsSorted, IsStrictlySortedBy}
use Rattle.std.specs.Ordering.{eq_by_cmp, is_eq, is_lt, nat_cmp, ordering_then}
use Rattle.std.specs.declared.cmp.Ordering.TheVariants.{Less, Equal, Greater}
use Rattle.std.proofs.lemmas.Bool.{cases_Bool, cases_lt}
use Rattle.std.proofs.lemmas.Bool.Decides.{nat_tests}
use Rattle.std.proofs.lemmas.Cmp.{eq_by_cmp_equiv, nat_cmp_total, on_total}
use Rattle.std.proofs.lemmas.List.{append_assoc, drop_all, length-append, length-map, length-take-le, take-append-drop, take_at}
use Rattle.std.proofs.lemmas.List.Elements.{All-contains, All-from_recursion, filter-append, filter_agree}
use Rattle.std.proofs.lemmas.List.Filters.{length-filter_both}
use Rattle.std.proofs.lemmas.List.Sorted.{IsPermutation-append_comm, IsPermutation-append_left, IsPermutation-trans, length_permutation, sum_by-IsPermutation}
use Rattle.std.proofs.lemmas.List.Sums.{length-filter}
use Rattle.std.proofs.lemmas.Map.Keys.{IsDistinct-IsPermutation, IsDistinct-from_sorted}
use Rattle.std.proofs.Math.Bool.{and-true}
use Rattle.list_laws.specs.Ordered.{AreApart, ordered, insert_in_order}
use Rattle.list_laws.proofs.LeastLemmas.{count_before, count_before-ordered, filter-ordered_apart, least-take, insert_in_order-after, take-insert_in_order}
use Rattle.list_laws.proofs.MemberLemmas.{list_any-none, member_of_filter}
use Rattle.list_laws.proofs.OrderedLemmas.{IsPermutation-ordered, IsSortedBy-ordered, IsStrictlySortedBy-ordered}
use Rattle.list_laws.proofs.ApartLemmas.{AreApart-behind, ordered_from_sorted}
use Rattle.list_laws.proofs.PartLemmas.{all_from_members, member_of_drop}
use Rattle.track_types.specs.ByFilter.{is_row_at, near_of, near_order, nearest_among, nears_at, nears_of}
use Rattle.track_types.specs.Row.{IsAscending}
use Rattle.track_types.specs.declared.cell.Cell.{Cell}
use Rattle.track_types.specs.declared.near.Near.{Near}
use Rattle.track_types.specs.declared.question.Question.{Question}
use Rattle.track_types.specs.declared.question.Question.TheVariants as asked
use Rattle.track_types.specs.declared.row.Row.{Row}
use Rattle.track_types.proofs.NearLemmas.{near_order_total}
use Rattle.live_tail.specs.Cost.{nearest_cost_beside, raised_count}
use Rattle.live_tail.specs.Join.{rows_of_both}
use Rattle.live_tail.proofs.InstantLemmas.{found-moved, found-rises, has_object}
use Rattle.live_tail.proofs.JoinLemmas.{IsAscending-rows_of_both}

module _ {X : Type 0} (order : X → X → Ordering) (o : IsTotalOrder order) where
  less_is : (a : Ordering) → is_lt a ≡ true → a ≡ Less
  less_is Less before = refl
  less_is Equal before = absurd (cc)
  less_is Greater before = absurd (cc)

  not-before : (b z y : X) → is_lt (order z b) ≡ false → order z y ≡ Less → is_lt (order y b) ≡ false
  not-before b z y after below = elim (cases_Bool (is_lt (order y b))) [
    | inl before ↦ absurd (let never : true ≡ false = sym (ap is_lt (o.trans z y b below (less_is (order y b) before))) ∙ after in cc)
    | inr none ↦ none
  ]

  -- none after an element that does not come before another comes before that
  none-past : (b z : X) (zs : List X) → is_lt (order z b) ≡ false → AllByRecursion (λ y. order z y ≡ Less) zs → count_before order zs b ≡ 0
  none-past b z [] after all = refl
  none-past b z (y ∷ ys) after all = rw (not-before b z y after all.0) (none-past b z ys after all.1)

  -- in strict order, the first so many come before an element before which so many come
  first-before : (b : X) (k : ℕ) (zs : List X) → IsStrictlySortedBy order zs → k ≤ count_before order zs b →
      AllByRecursion (λ z. is_lt (order z b) ≡ true) (take k zs)
  unfolding IsStrictlySortedBy
  first-before b zero zs up many = tt
  first-before b (suc k) [] up many = tt
  first-before b (suc k) (z ∷ zs) up many = elim (cases_Bool (is_lt (order z b))) [
    | inl before ↦ (before, first-before b k zs up.1 (let more = rw before at many in omega (arith, more)))
    | inr after ↦ absurd (let more = rw after at many in omega (arith, more, none-past b z zs after up.0))
  ]

  count-most : (xs : List X) (b : X) → count_before order xs b ≤ length xs
  count-most xs b =
      omega (arith, length-filter_both (λ y. is_lt (order y b)) (λ y. not (is_lt (order y b))) (λ y. refl) xs)

  -- elements before which so many come do not count among the first so many in order
  pub take-late : (k : ℕ) (late xs : List X) → AreApart order xs → AllByRecursion (λ b. k ≤ count_before order xs b) late →
      take k (ordered order (late ++ xs)) ≡ take k (ordered order xs)
  unfolding ordered
  take-late k [] xs apart all = refl
  take-late k (b ∷ late) xs apart all =
      let sorted : List X = ordered order xs in
      let many : k ≤ count_before order sorted b = omega (arith, all.0, count_before-ordered order o xs b) in
      take-insert_in_order order k b (ordered order (late ++ xs))
      ∙ ap (λ ys. take k (insert_in_order order b ys)) (take-late k late xs apart all.1)
      ∙ ap (take k) (insert_in_order-after order b (take k sorted)
      (first-before b k sorted (IsStrictlySortedBy-ordered order o xs apart) many))
      ∙ take_at (take k sorted) (b ∷ []) k (length-take-le k sorted (omega (arith, many, count-most sorted b)))

  -- in strict order, all of the first so many that a filter keeps come before a later element
  count-front : (p : X → Bool) (k : ℕ) (zs : List X) → IsStrictlySortedBy order zs → (b : X) → Contains (drop k zs) b →
      count_before order (filter p (take k zs)) b ≡ length (filter p (take k zs))
  unfolding IsStrictlySortedBy
  count-front p zero zs up b inside = refl
  count-front p (suc k) [] up b inside = refl
  count-front p (suc k) (z ∷ zs) up b inside =
      let below : is_lt (order z b) ≡ true =
      ap is_lt (All-contains (λ y. order z y ≡ Less) zs b (All-from_recursion (λ y. order z y ≡ Less) zs up.0) (member_of_drop k zs b inside)) in
      elim (cases_Bool (p z)) [
        | inl stays ↦ rw (stays, below) (ap suc (count-front p k zs up.1 b inside))
        | inr goes ↦ rw goes (count-front p k zs up.1 b inside)
      ]

  -- elements of which no two tie are in one order, wherever they stood
  pub ordered-moved : (xs ys : List X) → AreApart order xs → IsPermutation xs ys → ordered order ys ≡ ordered order xs
  ordered-moved xs ys apart moved =
      ordered_from_sorted o xs (ordered order ys) apart
      (IsPermutation-trans xs ys (ordered order ys) moved (IsPermutation-ordered order ys)) (IsSortedBy-ordered order o ys)

  -- Some elements go, and others come. The first so many in order of what then is there need only the first so many, and as
  -- many more as go.
  module _ (gone : X → Bool) where
    abbrev pub kept : List X → List X
    kept xs = filter (λ x. not (gone x)) xs

    length-kept : (xs : List X) → length (filter gone xs) + length (kept xs) ≡ length xs
    length-kept xs = length-filter_both gone (λ x. not (gone x)) (λ x. refl) xs

    -- as many go from elements in order
    gone-ordered : (xs : List X) → length (filter gone (ordered order xs)) ≡ length (filter gone xs)
    gone-ordered xs =
        length-filter gone (ordered order xs)
        ∙ sum_by-IsPermutation _ xs (ordered order xs) (IsPermutation-ordered order xs)
        ∙ sym (length-filter gone xs)

    gone-front : (k : ℕ) (xs : List X) → length (filter gone (take k xs)) ≤ length (filter gone xs)
    gone-front k xs =
        omega (
          arith,
          ap (λ zs. length (filter gone zs)) (take-append-drop k xs),
          ap length (filter-append gone (take k xs) (drop k xs)),
          length-append (filter gone (take k xs)) (filter gone (drop k xs)),
        )

    module _ (raised : ℕ) (xs others : List X) (apart : AreApart order xs) where
      abbrev sorted : List X
      sorted = ordered order xs

      abbrev front : List X
      front = kept (take raised sorted)

      abbrev back : List X
      back = kept (drop raised sorted)

      -- what stays and what comes, with what was left out in front
      pub moved-back : IsPermutation (kept xs ++ others) (back ++ (front ++ others))
      moved-back =
          let parts : kept sorted ≡ front ++ back =
          ap kept (sym (take-append-drop raised sorted)) ∙ filter-append (λ x. not (gone x)) (take raised sorted) (drop raised sorted) in
          let same : ordered order (kept xs) ≡ front ++ back = sym (filter-ordered_apart order o (λ x. not (gone x)) xs apart) ∙ parts in
          subst (IsPermutation (kept xs ++ others)) (append_assoc back front others)
          (IsPermutation-append_left others (kept xs) (back ++ front)
          (IsPermutation-trans (kept xs) (front ++ back) (back ++ front)
          (subst (IsPermutation (kept xs)) same (IsPermutation-ordered order (kept xs)))
          (IsPermutation-append_comm front back)))

      module _ (k : ℕ) (enough : (length xs ≤ raised) ⊎ (k + length (filter gone xs) ≤ raised)) where
        -- as many as are asked for come before what was left out
        late : (b : X) → Contains (drop raised sorted) b → raised < length sorted → k + length (filter gone xs) ≤ raised →
            k ≤ count_before order (front ++ others) b
        late b inside more many =
            let before = count-front (λ x. not (gone x)) raised sorted (IsStrictlySortedBy-ordered order o xs apart) b inside in
            omega (
              arith,
              many,
              before,
              length-kept (take raised sorted),
              length-take-le raised sorted (omega (arith, more)),
              gone-front raised sorted,
              gone-ordered xs,
              ap length (filter-append (λ x. is_lt (order x b)) front others),
              length-append (filter (λ x. is_lt (order x b)) front) (filter (λ x. is_lt (order x b)) others),
            )

        length-sorted : length sorted ≡ length xs
        length-sorted = length_permutation xs sorted (IsPermutation-ordered order xs)

        surely : raised < length sorted → (length xs ≤ raised) ⊎ (k + length (filter gone xs) ≤ raised) → k + length (filter gone xs) ≤ raised
        surely more (inl all) = absurd (omega (arith, more, all, length-sorted))
        surely more (inr many) = many

        all-late : AllByRecursion (λ b. k ≤ count_before order (front ++ others) b) back
        all-late = elim (cases_lt raised (length sorted)) [
          | inl more ↦ all_from_members (λ b. k ≤ count_before order (front ++ others) b) back (λ b inside.
              late b (member_of_filter (λ x. not (gone x)) (drop raised sorted) b inside).0 more (surely more enough))
          | inr few ↦ rw (drop_all raised sorted few) tt
        ]

        pub take-raised : AreApart order (back ++ (front ++ others)) →
            take k (ordered order (back ++ (front ++ others))) ≡ take k (ordered order (front ++ others))
        take-raised apart = take-late k back (front ++ others) (AreApart-behind order back (front ++ others) apart) all-late

-- the order by object
abbrev object_order : Near → Near → Ordering
object_order a b = nat_cmp a.object b.object

object_order_total : IsTotalOrder object_order
object_order_total = on_total (λ (near : Near). near.object) nat_cmp_total

apart-then : (far_a far_b a b : ℕ) → is_eq (nat_cmp a b) ≡ false → is_eq (ordering_then (nat_cmp far_a far_b) (nat_cmp a b)) ≡ false
apart-then far_a far_b a b differ = grind (arith, nat_tests)

-- of different objects no two tie
apart-nears : (xs : List Near) → IsDistinct (eq_by_cmp object_order) xs → AreApart near_order xs
unfolding IsDistinct
apart-nears [] all = tt
apart-nears (x ∷ xs) all = (
  list_any-none (eq_by_cmp near_order x) xs (λ y inside.
      apart-then x.dist2 y.dist2 x.object y.object
      (All-contains (λ z. eq_by_cmp object_order x z ≡ false) xs y (All-from_recursion (λ z. eq_by_cmp object_order x z ≡ false) xs all.0) inside)),
  apart-nears xs all.1,
)

-- Of different objects at most as many are among rows' objects as there are rows.
none-of : (object : ℕ) (x : Near) (xs : List Near) → (object == x.object) ≡ true → AllByRecursion (λ y. object_order x y ≡ Less) xs →
    length (filter (λ (y : Near). y.object == object) xs) ≡ 0
none-of object x [] is all = refl
none-of object x (y ∷ ys) is all =
    let other : (y.object == object) ≡ false = differ object x.object y.object is all.0 in rw other (none-of object x ys is all.1)
  where
    differ : (object own also : ℕ) → (object == own) ≡ true → nat_cmp own also ≡ Less → (also == object) ≡ false
    differ object own also is less = grind (arith, nat_tests)

one-of : (object : ℕ) (xs : List Near) → IsStrictlySortedBy object_order xs → length (filter (λ (y : Near). y.object == object) xs) ≤ 1
unfolding IsStrictlySortedBy
one-of object [] up = omega arith
one-of object (x ∷ xs) up = elim (cases_Bool (x.object == object)) [
  | inl is ↦ rw is (omega (arith, none-of object x xs (back object x.object is) up.0))
  | inr not ↦ rw not (one-of object xs up.1)
]
  where
    back : (object own : ℕ) → (own == object) ≡ true → (object == own) ≡ true
    back object own is = grind (arith, nat_tests)

either-most : (p q : Near → Bool) (xs : List Near) → length (filter (λ x. p x || q x) xs) ≤ length (filter p xs) + length (filter q xs)
either-most p q [] = omega arith
either-most p q (x ∷ xs) = elim (cases_Bool (p x)) [
  | inl first ↦ elim (cases_Bool (q x)) [
    | inl also ↦ rw (first, also) (omega (arith, either-most p q xs))
    | inr not ↦ rw (first, not) (omega (arith, either-most p q xs))
  ]
  | inr neither ↦ elim (cases_Bool (q x)) [
    | inl also ↦ rw (neither, also) (omega (arith, either-most p q xs))
    | inr not ↦ rw (neither, not) (omega (arith, either-most p q xs))
  ]
]

none-pass : {X : Type 0} (xs : List X) → length (filter (λ x. false) xs) ≡ 0
none-pass [] = refl
none-pass (x ∷ xs) = none-pass xs

few-gone : (own : List Row) (xs : List Near) → IsStrictlySortedBy object_order xs →
    length (filter (λ (y : Near). has_object own y.object) xs) ≤ length own
few-gone [] xs up = omega (arith, none-pass xs)
few-gone (row ∷ own) xs up =
    omega (
      arith,
      either-most (λ (y : Near). y.object == row.object) (λ (y : Near). has_object own y.object) xs,
      one-of row.object xs up,
      few-gone own xs up,
    )

module _ (rows tail : List Row) (up : IsAscending rows) (also : IsAscending tail) (instant : ℤ) (cell : Cell) where
  abbrev own : List Row
  own = filter (is_row_at instant) tail

  abbrev others : List Near
  others = map (near_of cell) own

  abbrev overridden : Near → Bool
  overridden near = has_object own near.object

  all-pass : {X : Type 0} (xs : List X) → filter (λ x. true) xs ≡ xs
  all-pass [] = refl
  all-pass (x ∷ xs) = ap (λ zs. x ∷ zs) (all-pass xs)

  -- all rows of the instant are found
  all-found : (rows : List Row) → map (near_of cell) (filter (λ row. is_row_at instant row && true) rows) ≡ nears_at rows instant cell
  unfolding nears_at
  all-found rows = ap (map (near_of cell)) (filter_agree _ _ (λ row. and-true (is_row_at instant row)) rows)

  -- those of both are the tail's, and what these leave
  moved-nears : IsPermutation (nears_at (rows_of_both rows tail) instant cell)
      (kept near_order near_order_total overridden (nears_at rows instant cell) ++ others)
  moved-nears =
      rw (all-found (rows_of_both rows tail), all-found rows, all-pass own)
      at (found-moved instant (near_of cell) (λ (near : Near). near.object) (λ row. refl) (λ row. true) rows tail up also)

  rise : (rows : List Row) → IsAscending rows → IsStrictlySortedBy object_order (nears_at rows instant cell)
  rise rows up =
      subst (IsStrictlySortedBy object_order) (all-found rows)
      (found-rises instant (near_of cell) (λ (near : Near). near.object) (λ row. refl) (λ row. true) rows up)

  apart-at : (rows : List Row) → IsAscending rows → AreApart near_order (nears_at rows instant cell)
  apart-at rows up =
      apart-nears (nears_at rows instant cell) (IsDistinct-from_sorted object_order (nears_at rows instant cell) (rise rows up))

  first-of : (rows : List Row) → IsAscending rows → (count : ℕ) →
      nears_of rows count instant cell ≡ take count (ordered near_order (nears_at rows instant cell))
  unfolding nears_of nearest_among
  first-of rows up count = least-take near_order near_order_total count (nears_at rows instant cell) (apart-at rows up)

  module _ (count raised : ℕ) (is : raised ≡ min (count + length own) (2 ^ 32 - 1))
      (few : length (filter (is_row_at instant) rows) ≤ 2 ^ 32 - 1) where
    enough : (length (nears_at rows instant cell) ≤ raised)
        ⊎ (count + length (filter overridden (nears_at rows instant cell)) ≤ raised)
    unfolding nears_at
    enough =
        let gone = few-gone own (nears_at rows instant cell) (rise rows up) in
        let same = length-map (filter (is_row_at instant) rows) (near_of cell) in
        elim (cases_lt raised (count + length own)) [
          | inl held ↦ inl (omega (arith, held, is, few, same))
          | inr whole ↦ inr (omega (arith, whole, gone))
        ]

    -- what the tail's rows leave of the nearest in the index, and these, by nearness: the first of them are the nearest of both
    pub nears_of-rows_of_both : (sorted : List Near) →
        IsPermutation (filter (λ (near : Near). not (overridden near)) (nears_of rows raised instant cell) ++ others) sorted →
        IsSorted near_order sorted → take count sorted ≡ nears_of (rows_of_both rows tail) count instant cell
    nears_of-rows_of_both sorted moved order =
        let nears : List Near = nears_at rows instant cell in
        let both : List Near = nears_at (rows_of_both rows tail) instant cell in
        let front : List Near = kept near_order near_order_total overridden (take raised (ordered near_order nears)) in
        let back : List Near = kept near_order near_order_total overridden (drop raised (ordered near_order nears)) in
        let all_moved : IsPermutation both (back ++ (front ++ others)) =
        IsPermutation-trans both (kept near_order near_order_total overridden nears ++ others) (back ++ (front ++ others)) moved-nears
        (moved-back near_order near_order_total overridden raised nears others (apart-at rows up)) in
        let distinct : IsDistinct (eq_by_cmp object_order) (back ++ (front ++ others)) =
        IsDistinct-IsPermutation (eq_by_cmp object_order) (eq_by_cmp_equiv object_order_total).symm both (back ++ (front ++ others)) all_moved
        (IsDistinct-from_sorted object_order both (rise (rows_of_both rows tail) (IsAscending-rows_of_both rows tail up also))) in
        let apart : AreApart near_order (back ++ (front ++ others)) = apart-nears (back ++ (front ++ others)) distinct in
        let first : sorted ≡ ordered near_order (front ++ others) =
        ordered_from_sorted near_order_total (front ++ others) sorted (AreApart-behind near_order back (front ++ others) apart)
        (subst (λ zs. IsPermutation (filter (λ (near : Near). not (overridden near)) zs ++ others) sorted) (first-of rows up raised) moved) order in
        ap (take count) first
        ∙ sym (take-raised near_order near_order_total overridden raised nears others (apart-at rows up) count enough apart)
        ∙ ap (take count) (ordered-moved near_order near_order_total both (back ++ (front ++ others))
        (apart-at (rows_of_both rows tail) (IsAscending-rows_of_both rows tail up also)) all_moved)
        ∙ sym (first-of (rows_of_both rows tail) (IsAscending-rows_of_both rows tail up also) count)

none-below : (q : Near → ℕ) (xs : List Near) → filter (λ x. nat_lt (q x) 0) xs ≡ []
none-below q [] = refl
none-below q (x ∷ xs) = let never : nat_lt (q x) 0 ≡ false = grind (arith, nat_tests) in rw never (none-below q xs)

-- where none is asked for there is none, and nothing is read
pub nears_of-none : (rows : List Row) (count : ℕ) (instant : ℤ) (cell : Cell) → count ≡ 0 → nears_of rows count instant cell ≡ []
unfolding nears_of nearest_among ordered
nears_of-none rows count instant cell none =
    rw none (ap (ordered near_order) (none-below (count_before near_order (nears_at rows instant cell)) (nears_at rows instant cell)))

-- where some are, they cost what the raised count does
pub cost-some : (cost : Question → ℕ) (rows : List Row) (count : ℕ) (instant : ℤ) (cell : Cell) → 0 < count →
    nearest_cost_beside cost rows count instant cell ≡ cost (asked.Nearest (raised_count rows count instant) instant cell)
unfolding nearest_cost_beside
cost-some cost rows zero instant cell some = absurd (omega (arith, some))
cost-some cost rows (suc count) instant cell some = refl

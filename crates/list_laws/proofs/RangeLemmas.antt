-- Lists and sums over a range of numbers, of which only some give any.
use Rattle.std.proofs.Common.{◌≡◌, ℕ, zero, suc, ◌+◌, ◌-◌, ◌<◌, ◌≤◌, Bool, true, List, [], ◌∷◌, ◌++◌, slice_index, length}
use Rattle.std.proofs.Common.{Ordering, Option, None, Some, IfSome, All, map, refl, ap, sym, subst, ◌∙◌, arith, inl, inr}
use Rattle.std.specs.Prelude.{get_or, if◌then◌else◌}
use Rattle.std.specs.List.{cons_option, enumerate_from, filter, filter_map, find, flat_map, range_with_len, sum_by}
use Rattle.std.specs.List.Sorted.{IsStrictlySortedBy}
use Rattle.std.specs.declared.cmp.Ordering.TheVariants.{Less}
use Rattle.std.proofs.lemmas.Bool.{cases_Bool, cases_lt}
use Rattle.std.proofs.lemmas.List.{append-nil, map-id}
use Rattle.std.proofs.lemmas.List.Concat.{flat_map-append}
use Rattle.std.proofs.lemmas.List.Elements.{All-append, All-head, All-nil, filter_map-append}
use Rattle.std.proofs.lemmas.List.Elements.{All-tail, All-from_recursion, recursion_from_All}
use Rattle.std.proofs.lemmas.List.FromFn.{map-range_with_len_more, fill_by_all}
use Rattle.std.proofs.lemmas.List.Sums.{sum_by-cons}
use Rattle.std.proofs.lemmas.List.Folds.{flat_map-map}
use Rattle.list_laws.proofs.FilterLemmas.{sum_by-filter}

-- numbers from one on, in two parts
pub range-parts : (a m n : ℕ) → range_with_len a (m + n) ≡ range_with_len a m ++ range_with_len (a + m) n
range-parts a zero n =
    let same : a + 0 ≡ a = omega arith in
    let none : 0 + n ≡ n = omega arith in
    rw (same, none) refl
range-parts a (suc m) n =
    let long : suc m + n ≡ suc (m + n) = omega arith in
    let from : a + suc m ≡ (a + 1) + m = omega arith in
    rw (long, from) (ap (λ ns. a ∷ ns) (range-parts (a + 1) m n))

-- one more number
pub range-more : (n : ℕ) → range_with_len 0 (n + 1) ≡ range_with_len 0 n ++ n ∷ []
range-more n =
    sym (map-id (range_with_len 0 (n + 1)))
    ∙ map-range_with_len_more (λ i. i) 0 n n (omega arith)
    ∙ ap (λ xs. xs ++ n ∷ []) (map-id (range_with_len 0 n))

-- what is made of one number more
pub filter_map-range_more : {Y : Type 0} (make : ℕ → Option Y) (n : ℕ)
    → filter_map make (range_with_len 0 (n + 1)) ≡ filter_map make (range_with_len 0 n) ++ cons_option (make n) []
filter_map-range_more make n =
    ap (filter_map make) (range-more n) ∙ filter_map-append make (range_with_len 0 n) (n ∷ [])

pub flat_map-range_next : {A : Type 0} (f : ℕ → List A) (n : ℕ)
    → flat_map f (range_with_len 0 (n + 1)) ≡ flat_map f (range_with_len 0 n) ++ f n
flat_map-range_next f n =
    ap (flat_map f) (range-more n) ∙ flat_map-append f (range_with_len 0 n) (n ∷ [])
    ∙ ap (λ ys. flat_map f (range_with_len 0 n) ++ ys) (append-nil (f n))

-- what is made of the elements by their places
pub flat_map-places : {X : Type 0} (f : ℕ → List X) (xs : List ℕ) →
    flat_map (λ i. f (slice_index xs i)) (range_with_len 0 (length xs)) ≡ flat_map f xs
flat_map-places f xs =
    sym (flat_map-map f (slice_index xs) (range_with_len 0 (length xs)))
    ∙ ap (flat_map f) (sym (fill_by_all (slice_index xs) xs (length xs) 0 refl (λ k below. refl)))

-- numbers that give nothing
pub flat_map-range_none : {A : Type 0} (f : ℕ → List A) (from n : ℕ) → ((j : ℕ) → from ≤ j → j < from + n → f j ≡ [])
    → flat_map f (range_with_len from n) ≡ []
flat_map-range_none f from zero none = refl
flat_map-range_none f from (suc n) none =
    rw (none from (omega arith) (omega arith))
    (flat_map-range_none f (from + 1) n (λ j low high. none j (omega arith) (omega arith)))

-- the first ones may be passed over where they give nothing
flat_map-range_behind : {A : Type 0} (f : ℕ → List A) (from skip n : ℕ)
    → ((j : ℕ) → from ≤ j → j < from + skip → f j ≡ [])
    → flat_map f (range_with_len from (skip + n)) ≡ flat_map f (range_with_len (from + skip) n)
flat_map-range_behind f from zero n none =
    let same : from ≡ from + 0 = omega arith in
    let none_more : 0 + n ≡ n = omega arith in
    ap (λ k. flat_map f (range_with_len from k)) none_more ∙ ap (λ k. flat_map f (range_with_len k n)) same
flat_map-range_behind f from (suc skip) n none =
    let same : from + 1 + skip ≡ from + suc skip = omega arith in
    let more : suc skip + n ≡ suc (skip + n) = omega arith in
    rw (more, none from (omega arith) (omega arith))
    (flat_map-range_behind f (from + 1) skip n (λ j low high. none j (omega arith) (omega arith))
    ∙ ap (λ k. flat_map f (range_with_len k n)) same)

-- and so may the last ones
flat_map-range_before : {A : Type 0} (f : ℕ → List A) (from n rest : ℕ)
    → ((j : ℕ) → from + n ≤ j → j < from + n + rest → f j ≡ [])
    → flat_map f (range_with_len from (n + rest)) ≡ flat_map f (range_with_len from n)
flat_map-range_before f from zero rest none =
    let none_more : 0 + rest ≡ rest = omega arith in
    rw none_more (flat_map-range_none f from rest (λ j low high. none j (omega arith) (omega arith)))
flat_map-range_before f from (suc n) rest none =
    let more : suc n + rest ≡ suc (n + rest) = omega arith in
    rw more (ap (λ ys. f from ++ ys)
    (flat_map-range_before f (from + 1) n rest (λ j low high. none j (omega arith) (omega arith))))

-- only those from one to before another give any
pub flat_map-range_part : {A : Type 0} (f : ℕ → List A) (next behind n : ℕ) → next ≤ behind → behind ≤ n
    → ((j : ℕ) → j < next → f j ≡ []) → ((j : ℕ) → behind ≤ j → j < n → f j ≡ [])
    → flat_map f (range_with_len 0 n) ≡ flat_map f (range_with_len next (behind - next))
flat_map-range_part f next behind n low high early late =
    let all : n ≡ next + (behind - next + (n - behind)) = omega arith in
    let from : 0 + next ≡ next = omega arith in
    ap (λ k. flat_map f (range_with_len 0 k)) all
    ∙ flat_map-range_behind f 0 next (behind - next + (n - behind)) (λ j least less. early j (omega arith))
    ∙ ap (λ k. flat_map f (range_with_len k (behind - next + (n - behind)))) from
    ∙ flat_map-range_before f next (behind - next) (n - behind) (λ j least less. late j (omega arith) (omega arith))

-- one number alone gives any
pub flat_map-range_one : {A : Type 0} (f : ℕ → List A) (place n : ℕ) → place < n
    → ((j : ℕ) → j < n → (j ≡ place → ⊥) → f j ≡ []) → flat_map f (range_with_len 0 n) ≡ f place
flat_map-range_one f place n within others =
    let one : place + 1 - place ≡ 1 = omega arith in
    flat_map-range_part f place (place + 1) n (omega arith) (omega arith)
    (λ j less. others j (omega arith) (λ e. omega arith)) (λ j most less. others j less (λ e. omega arith))
    ∙ ap (λ k. flat_map f (range_with_len place k)) one ∙ append-nil (f place)

-- what holds in the list of each number
pub All-flat_map_range : {A : Type 0} (P : A → Type 0) (f : ℕ → List A) (from n : ℕ)
    → ((j : ℕ) → from ≤ j → j < from + n → All P (f j)) → All P (flat_map f (range_with_len from n))
All-flat_map_range P f from zero each = All-nil P
All-flat_map_range P f from (suc n) each =
    All-append P (f from) (flat_map f (range_with_len (from + 1) n)) (each from (omega arith) (omega arith))
    (All-flat_map_range P f (from + 1) n (λ j low high. each j (omega arith) (omega arith)))

-- a sum over some numbers of a range is within that over all of the range that pass a test, where they do
sum_by-range_more : (f : ℕ → ℕ) (from skip n : ℕ)
    → sum_by f (range_with_len (from + skip) n) ≤ sum_by f (range_with_len from (skip + n))
sum_by-range_more f from zero n =
    let same : from + 0 ≡ from = omega arith in
    let none_more : 0 + n ≡ n = omega arith in
    omega (
      arith,
      ap (λ k. sum_by f (range_with_len k n)) same,
      ap (λ k. sum_by f (range_with_len from k)) none_more,
    )
sum_by-range_more f from (suc skip) n =
    let same : from + suc skip ≡ from + 1 + skip = omega arith in
    let more : suc skip + n ≡ suc (skip + n) = omega arith in
    omega (
      arith,
      ap (λ k. sum_by f (range_with_len from k)) more,
      ap (λ k. sum_by f (range_with_len k n)) same,
      sum_by-range_more f (from + 1) skip n,
      sum_by-cons f from (range_with_len (from + 1) (skip + n)),
    )

sum_by-range_longer : (f g : ℕ → ℕ) (from n rest : ℕ) → ((j : ℕ) → from ≤ j → j < from + n → f j ≡ g j)
    → sum_by f (range_with_len from n) ≤ sum_by g (range_with_len from (n + rest))
sum_by-range_longer f g from zero rest same = omega arith
sum_by-range_longer f g from (suc n) rest same =
    let more : suc n + rest ≡ suc (n + rest) = omega arith in
    omega (
      arith,
      ap (λ k. sum_by g (range_with_len from k)) more,
      same from (omega arith) (omega arith),
      sum_by-range_longer f g (from + 1) n rest (λ j low high. same j (omega arith) (omega arith)),
      sum_by-cons f from (range_with_len (from + 1) n),
      sum_by-cons g from (range_with_len (from + 1) (n + rest)),
    )

pub sum_by-range_part : (f : ℕ → ℕ) (p : ℕ → Bool) (next behind n : ℕ) → next ≤ behind → behind ≤ n
    → ((j : ℕ) → next ≤ j → j < behind → p j ≡ true)
    → sum_by f (range_with_len next (behind - next)) ≤ sum_by f (filter p (range_with_len 0 n))
sum_by-range_part f p next behind n low high passes =
    let kept : ℕ → ℕ = λ j. if p j then f j else 0 in
    let from : 0 + next ≡ next = omega arith in
    let all : next + (behind - next + (n - behind)) ≡ n = omega arith in
    let same : (j : ℕ) → next ≤ j → j < next + (behind - next) → f j ≡ kept j =
    λ j least less. let passed : p j ≡ true = passes j least (omega arith) in rw passed refl in
    omega (
      arith,
      sum_by-filter f p (range_with_len 0 n),
      sum_by-range_longer f kept next (behind - next) (n - behind) same,
      sum_by-range_more kept 0 next (behind - next + (n - behind)),
      ap (λ k. sum_by kept (range_with_len k (behind - next + (n - behind)))) from,
      ap (λ k. sum_by kept (range_with_len 0 k)) all,
    )

-- what holds of all that is made of numbers
made-cons : {Y : Type 0} (P : Y → Type 0) (made : Option Y) (ys : List Y) → All P (cons_option made ys)
    → IfSome made P × All P ys
made-cons P None ys each = (tt, each)
made-cons P (Some y) ys each = (All-head P y ys each, All-tail P y ys each)

pub All-from_filter_map : {Y : Type 0} (P : Y → Type 0) (make : ℕ → Option Y) (from n : ℕ)
    → All P (filter_map make (range_with_len from n)) → (place : ℕ) → from ≤ place → place < from + n
    → IfSome (make place) P
All-from_filter_map P make from zero each place low high = absurd (omega arith)
All-from_filter_map P make from (suc n) each place low high =
    let first = made-cons P (make from) (filter_map make (range_with_len (from + 1) n)) each in
    elim (cases_lt from place) [
      | inl later ↦ All-from_filter_map P make (from + 1) n first.1 place (omega arith) (omega arith)
      | inr here ↦ let same : from ≡ place = omega arith in subst (λ k. IfSome (make k) P) same first.0
    ]

-- the first number that passes a test passes it
pub find_in_range-some : (test : ℕ → Bool) (from n place : ℕ) → find test (range_with_len from n) ≡ Some place
    → (place < from + n) × (test place ≡ true)
find_in_range-some test from zero place found = absurd (cc)
find_in_range-some test from (suc n) place found = elim (cases_Bool (test from)) [
  | inl passes ↦
      let first : Some from ≡ Some place = rw passes at found in
      let same : from ≡ place = cc in
      (omega (arith, same), sym (ap test same) ∙ passes)
  | inr fails ↦
      let later = find_in_range-some test (from + 1) n place (rw fails at found) in
      (omega (arith, later.0), later.1)
]

module _ {X : Type 0} (order : X → X → Ordering) where
  -- two lists in strict order, where each of the first is before each of the second
  pub IsStrictlySortedBy-append : (xs ys : List X) → IsStrictlySortedBy order xs → IsStrictlySortedBy order ys
      → All (λ x. All (λ y. order x y ≡ Less) ys) xs → IsStrictlySortedBy order (xs ++ ys)
  unfolding IsStrictlySortedBy
  IsStrictlySortedBy-append [] ys up later before = later
  IsStrictlySortedBy-append (x ∷ xs) ys up later before = (
    recursion_from_All (λ y. order x y ≡ Less) (xs ++ ys)
        (All-append (λ y. order x y ≡ Less) xs ys
        (All-from_recursion (λ y. order x y ≡ Less) xs up.0)
        (All-head (λ z. All (λ y. order z y ≡ Less) ys) x xs before)),
    IsStrictlySortedBy-append xs ys up.1 later (All-tail (λ z. All (λ y. order z y ≡ Less) ys) x xs before),
  )

  -- the lists of numbers, each in strict order, where those of a number are before those of each later one
  pub IsStrictlySortedBy-flat_map_range : (f : ℕ → List X) (from n : ℕ)
      → ((j : ℕ) → from ≤ j → j < from + n → IsStrictlySortedBy order (f j))
      → ((i j : ℕ) → from ≤ i → i < j → j < from + n → All (λ x. All (λ y. order x y ≡ Less) (f j)) (f i))
      → IsStrictlySortedBy order (flat_map f (range_with_len from n))
  unfolding IsStrictlySortedBy
  IsStrictlySortedBy-flat_map_range f from zero up before = tt
  IsStrictlySortedBy-flat_map_range f from (suc n) up before =
      IsStrictlySortedBy-append (f from) (flat_map f (range_with_len (from + 1) n))
      (up from (omega arith) (omega arith))
      (IsStrictlySortedBy-flat_map_range f (from + 1) n (λ j low high. up j (omega arith) (omega arith))
      (λ i j low less high. before i j (omega arith) less (omega arith)))
      (λ k d within. All-flat_map_range (λ y. order (get_or (f from) k d) y ≡ Less) f (from + 1) n
      (λ j low high. before from j (omega arith) (omega arith) (omega arith) k d within))

-- elements after others are numbered on
pub enumerate_from-append : {X : Type 0} (first : ℕ) (front back : List X)
    → enumerate_from first (front ++ back) ≡ enumerate_from first front ++ enumerate_from (first + length front) back
enumerate_from-append first [] back = ap (λ n. enumerate_from n back) (omega arith)
enumerate_from-append first (x ∷ front) back =
    let next : first + 1 + length front ≡ first + length (x ∷ front) = omega arith in
    let renumbered = ap (λ n. enumerate_from (first + 1) front ++ enumerate_from n back) next in
    ap (λ rest. (first, x) ∷ rest) (enumerate_from-append (first + 1) front back ∙ renumbered)

-- what is made of the numbers that pass a test, at once or in two steps
pub map-filter_range : {X : Type 0} (f h : ℕ → X) (k : ℕ → ℕ) (test : ℕ → Bool) (first count : ℕ)
    → ((p : ℕ) → p < first + count → f p ≡ h (k p))
    → map f (filter test (range_with_len first count)) ≡ map h (map k (filter test (range_with_len first count)))
map-filter_range f h k test first zero same = refl
map-filter_range f h k test first (suc count) same =
    let rest = map-filter_range f h k test (first + 1) count (λ p less. same p (omega arith)) in
    elim (cases_Bool (test first)) [
      | inl on ↦ rw on
          (ap (λ x. x ∷ map f (filter test (range_with_len (first + 1) count))) (same first (omega arith))
          ∙ ap (λ xs. h (k first) ∷ xs) rest)
      | inr off ↦ rw off rest
    ]

-- Rows in order, cut where a test begins to fail: the rows of a window, and those of an object.
use Rattle.std.proofs.Common.{◌≡◌, ℕ, ℤ, zero, suc, ◌+◌, ◌-◌, ◌<◌, ◌≤◌, Bool, true, false, List, [], ◌∷◌, length, get_or, filter, min, take, drop, All, refl, sym, ◌∙◌, ap, arith, inl, inr}
use Rattle.std.specs.Prelude.{not, ◌&&◌, ◌==◌, ◌↔◌, nat_le, nat_lt}
use Rattle.std.specs.Int.Signed.{le_z, lt_z}
use Rattle.std.specs.List.{Contains, list_any}
use Rattle.std.specs.List.Sorted.{IsPartitionPoint, IsPartitionedBy, IsPermutation, IsSorted, ties}
use Rattle.std.specs.Ordering.{is_lt}
use Rattle.std.specs.declared.cmp.Ordering.TheVariants.{Less}
use Rattle.std.proofs.lemmas.Bool.Decides.{nat_tests}
use Rattle.std.proofs.lemmas.Bool.{cases_lt}
use Rattle.std.proofs.lemmas.Cmp.{int_cmp_total, on_total}
use Rattle.std.proofs.lemmas.Int.{ints}
use Rattle.std.proofs.lemmas.List.{get_or-take, length-take}
use Rattle.std.proofs.lemmas.List.Elements.{All-contains, Contains-get_or, filter_agree, filter_passes}
use Rattle.std.proofs.lemmas.List.Kept.{IsStrictlySortedBy-filter}
use Rattle.std.proofs.lemmas.List.MinMax.{ranks_by}
use Rattle.std.proofs.lemmas.List.Sorted.{Contains-permutation, IsPermutation-sym, sorted_far}
use Rattle.std.proofs.lemmas.Map.Keys.{Less-from_sorted}
use Rattle.std.proofs.Math.Bool.{and_comm}
use Rattle.list_laws.proofs.FilterLemmas.{filter-all, filter_and}
use Rattle.list_laws.proofs.MemberLemmas.{Contains-filter, filter-none, member_of_filter}
use Rattle.list_laws.proofs.SliceLemmas.{take-rest}
use Rattle.list_laws.proofs.StableLemmas.{filter-stable}
use Rattle.track_types.specs.ByFilter.{is_row_at, is_row_between}
use Rattle.track_types.specs.Region.{is_between}
use Rattle.track_types.specs.Row.{IsAscending, row_order}
use Rattle.track_types.specs.declared.row.Row.{Row}
use Rattle.track_types.proofs.RowLemmas.{object_le}
use Rattle.live_tail.specs.ByInstant.{AreByInstant, instant_order}
use Rattle.live_tail.specs.Cost.{rows_between}

-- a list is cut where a test begins to fail
module _ {X : Type 0} (p : X → Bool) where
  fails_all : (xs : List X) → ((k : ℕ) (d : X) → 0 ≤ k → k < length xs → p (get_or xs k d) ≡ false) → (x : X) → Contains xs x
      → p x ≡ false
  fails_all xs fails x inside =
      let below : inside.0 < length xs = inside.1 in
      let here : get_or xs inside.0 x ≡ x = inside.2 in
      ap p (sym here) ∙ fails inside.0 x (omega arith) below

  pub take-parted : (xs : List X) (i : ℕ) → IsPartitionPoint (λ y. p y ≡ true) (λ y. p y ≡ false) xs i → i ≤ length xs
      → take i xs ≡ filter p xs
  take-parted [] zero parted within = refl
  take-parted [] (suc i) parted within = refl
  take-parted (x ∷ xs) zero parted within = sym (filter-none p (x ∷ xs) (fails_all (x ∷ xs) parted.1))
  take-parted (x ∷ xs) (suc i) parted within =
      let meets : p x ≡ true = parted.0 0 x (omega arith) (omega arith) in
      rw meets (ap (λ ys. x ∷ ys) (take-parted xs i (
        (λ k d low high. parted.0 (suc k) d (omega arith) (omega arith)),
        (λ k d low high. parted.1 (suc k) d (omega arith) (omega arith)),
      ) (omega arith)))

  pub drop-parted : (xs : List X) (i : ℕ) → IsPartitionPoint (λ y. p y ≡ true) (λ y. p y ≡ false) xs i → i ≤ length xs
      → drop i xs ≡ filter (λ y. not (p y)) xs
  drop-parted [] zero parted within = refl
  drop-parted [] (suc i) parted within = refl
  drop-parted (x ∷ xs) zero parted within =
      sym (filter-all (λ y. not (p y)) (x ∷ xs)
      (λ k d below. ap not (parted.1 k d (omega arith) below)))
  drop-parted (x ∷ xs) (suc i) parted within =
      let meets : p x ≡ true = parted.0 0 x (omega arith) (omega arith) in
      rw meets (drop-parted xs i (
        (λ k d low high. parted.0 (suc k) d (omega arith) (omega arith)),
        (λ k d low high. parted.1 (suc k) d (omega arith) (omega arith)),
      ) (omega arith))

  pub IsPartitionedBy-take : (xs : List X) (n : ℕ) → IsPartitionedBy p xs → IsPartitionedBy p (take n xs)
  IsPartitionedBy-take xs n parted i j d low high is =
      let within = rw (length-take n xs) at high in
      rw (get_or-take n xs i d (omega arith)) (parted i j d low (omega arith) (rw (get_or-take n xs j d (omega arith)) at is))

-- the part of a list between two cuts
pub cut : {X : Type 0} (p q : X → Bool) (xs : List X) (i j : ℕ)
    → IsPartitionPoint (λ y. q y ≡ true) (λ y. q y ≡ false) xs i → i ≤ length xs
    → IsPartitionPoint (λ y. p y ≡ true) (λ y. p y ≡ false) (take i xs) j → j ≤ length (take i xs)
    → take (length (take i xs) - j) (drop j (take i xs)) ≡ filter (λ y. not (p y)) (filter q xs)
cut p q xs i j parted within again inside =
    take-rest j (take i xs) ∙ drop-parted p (take i xs) j again inside
    ∙ ap (filter (λ y. not (p y))) (take-parted q xs i parted within)

-- a window: the rows up to its end, without those before its begin
module _ (from to : ℤ) where
  abbrev pub is_upto : Row → Bool
  is_upto row = le_z row.instant to

  abbrev pub is_before : Row → Bool
  is_before row = lt_z row.instant from

  between-tests : (instant : ℤ) → (not (lt_z instant from) && le_z instant to) ≡ is_between from to instant
  between-tests instant = grind (arith, ints)

  pub window-cut : (rows : List Row) → filter (λ row. not (is_before row)) (filter is_upto rows) ≡ rows_between rows from to
  window-cut rows =
      sym (filter_and (λ row. not (is_before row)) is_upto rows)
      ∙ filter_agree _ _ (λ row. between-tests row.instant) rows

  upto-down : (a b : Row) → is_lt (instant_order b a) ≡ false → is_upto b ≡ true → is_upto a ≡ true
  upto-down a b order is = grind (arith, ints)

  before-down : (a b : Row) → is_lt (instant_order b a) ≡ false → is_before b ≡ true → is_before a ≡ true
  before-down a b order is = grind (arith, ints)

  module _ (rows : List Row) (up : IsSorted instant_order rows) where
    later : (i j : ℕ) (d : Row) → i ≤ j → j < length rows → is_lt (instant_order (get_or rows j d) (get_or rows i d)) ≡ false
    later i j d low high =
        sorted_far (λ a b. is_lt (instant_order a b)) (ranks_by (on_total (λ (row : Row). row.instant) int_cmp_total) (λ row. row)) rows up i j d low high

    pub IsPartitionedBy-upto : IsPartitionedBy is_upto rows
    IsPartitionedBy-upto i j d low high is = upto-down (get_or rows i d) (get_or rows j d) (later i j d low high) is

    pub IsPartitionedBy-before : IsPartitionedBy is_before rows
    IsPartitionedBy-before i j d low high is = before-down (get_or rows i d) (get_or rows j d) (later i j d low high) is

-- those of an object
module _ (object : ℕ) where
  abbrev pub is_upto_object : Row → Bool
  is_upto_object row = nat_le row.object object

  abbrev pub is_before_object : Row → Bool
  is_before_object row = nat_lt row.object object

  object-tests : (other : ℕ) → (not (nat_lt other object) && nat_le other object) ≡ (object == other)
  object-tests other = grind (arith, nat_tests)

  pub object-cut : (rows : List Row) → filter (λ row. not (is_before_object row)) (filter is_upto_object rows) ≡ filter (λ row. object == row.object) rows
  object-cut rows =
      sym (filter_and (λ row. not (is_before_object row)) is_upto_object rows)
      ∙ filter_agree _ _ (λ row. object-tests row.object) rows

  module _ (rows : List Row) (up : IsAscending rows) where
    objects_up : (i j : ℕ) (d : Row) → i ≤ j → j < length rows → (get_or rows i d).object ≤ (get_or rows j d).object
    objects_up i j d low high = elim (cases_lt i j) [
      | inl before ↦ object_le (get_or rows i d) (get_or rows j d) (Less-from_sorted row_order rows i j d up before high)
      | inr at ↦ let same : i ≡ j = omega arith in rw same (omega arith)
    ]

    upto-less : (a b : ℕ) → a ≤ b → nat_le b object ≡ true → nat_le a object ≡ true
    upto-less a b low is = grind (arith, nat_tests)

    before-less : (a b : ℕ) → a ≤ b → nat_lt b object ≡ true → nat_lt a object ≡ true
    before-less a b low is = grind (arith, nat_tests)

    pub IsPartitionedBy-upto_object : IsPartitionedBy is_upto_object rows
    IsPartitionedBy-upto_object i j d low high is = upto-less _ _ (objects_up i j d low high) is

    pub IsPartitionedBy-before_object : IsPartitionedBy is_before_object rows
    IsPartitionedBy-before_object i j d low high is = before-less _ _ (objects_up i j d low high) is

    instant-less : (a b : Row) → row_order a b ≡ Less → (object == a.object) ≡ true → (object == b.object) ≡ true →
        is_lt (instant_order b a) ≡ false
    instant-less a b less one other = grind (arith, ints, nat_tests)

    -- the rows of an object are by instant
    pub IsSorted-object : IsSorted instant_order (filter (λ row. object == row.object) rows)
    IsSorted-object k d low high =
        let own : List Row = filter (λ row. object == row.object) rows in
        let strict = IsStrictlySortedBy-filter row_order (λ row. object == row.object) rows up in
        let each = filter_passes (λ (row : Row). object == row.object) rows in
        instant-less (get_or own k d) (get_or own (k + 1) d) (Less-from_sorted row_order own k (k + 1) d strict (omega arith) high)
        (each k d (omega arith)) (each (k + 1) d high)

  -- those of them in a window
  pub window-object : (rows : List Row) (from to : ℤ) →
      rows_between (filter (λ row. object == row.object) rows) from to ≡ filter (is_row_between object from to) rows
  window-object rows from to =
      sym (filter_and (λ (row : Row). is_between from to row.instant) (λ row. object == row.object) rows)
      ∙ filter_agree _ _ (λ (row : Row). and_comm (is_between from to row.instant) (object == row.object)) rows

-- a window of one instant
at-tests : (instant other : ℤ) → is_between instant instant other ≡ is_row_at instant (record { object = 0; instant = other; cell = record { x = other; y = other } })
at-tests instant other = grind (arith, ints)

tied_instants : (instant : ℤ) (a b : Row) → is_row_at instant a ≡ true → is_row_at instant b ≡ true →
    ties (λ (c d : Row). is_lt (instant_order c d)) a b ≡ true
tied_instants instant a b one other = grind (arith, ints)

pub window-instant : (rows sorted : List Row) (instant : ℤ) → AreByInstant rows sorted →
    rows_between sorted instant instant ≡ filter (is_row_at instant) rows
window-instant rows sorted instant are =
    filter_agree _ _ (λ row. at-tests instant row.instant) sorted
    ∙ filter-stable (λ c d. is_lt (instant_order c d)) rows sorted are.stable (is_row_at instant) (tied_instants instant)

-- a member of two tests passes both
pub any-both : {X : Type 0} (p q : X → Bool) (xs : List X) → list_any p (filter q xs) ≡ list_any (λ x. p x && q x) xs
any-both p q [] = refl
any-both p q (x ∷ xs) = grind (arith, any-both p q xs)

-- the rows of a window are the same, however the rows stand
window-member : (rows sorted : List Row) → IsPermutation rows sorted → (from to : ℤ) (row : Row) →
    Contains (rows_between rows from to) row → Contains (rows_between sorted from to) row
window-member rows sorted moved from to row inside =
    let test : Row → Bool = λ row. is_between from to row.instant in
    let member = member_of_filter test rows row inside in
    Contains-filter test sorted row member.1 (Contains-permutation rows sorted row moved member.0)

pub window-members : (rows sorted : List Row) → IsPermutation rows sorted → (from to : ℤ) (row : Row) →
    Contains (rows_between sorted from to) row ↔ Contains (rows_between rows from to) row
window-members rows sorted moved from to row = (
  window-member sorted rows (IsPermutation-sym rows sorted moved) from to row,
  window-member rows sorted moved from to row,
)

pub All-by_members : {X : Type 0} (P : X → Type 0) (xs : List X) → ((x : X) → Contains xs x → P x) → All P xs
All-by_members P xs each k d below = each (get_or xs k d) (Contains-get_or xs k d below)

-- what holds of each holds of each that passes
pub All-filter : {X : Type 0} (P : X → Type 0) (p : X → Bool) (xs : List X) → All P xs → All P (filter p xs)
All-filter P p xs all =
    All-by_members P (filter p xs) (λ x inside. All-contains P xs x all (member_of_filter p xs x inside).0)

-- no element is left
pub no_more : {X : Type 0} (xs : List X) → length xs ≡ 0 → xs ≡ []
no_more [] none = refl
no_more (x ∷ xs) none = absurd (omega (arith, none))

-- what is behind the first of a list, of which there may be fewer
pub drop_min : {X : Type 0} (n : ℕ) (xs : List X) → drop (min (length xs) n) xs ≡ drop n xs
drop_min zero [] = refl
drop_min {X} (suc n) [] =
    let on : min (length {A = X} []) (suc n) ≡ 0 = omega arith in
    ap (λ k. drop {A = X} k []) on
drop_min zero (x ∷ xs) =
    let on : min (length (x ∷ xs)) 0 ≡ 0 = omega arith in
    ap (λ k. drop k (x ∷ xs)) on
drop_min (suc n) (x ∷ xs) =
    let on : min (length (x ∷ xs)) (suc n) ≡ suc (min (length xs) n) = omega arith in
    ap (λ k. drop k (x ∷ xs)) on ∙ drop_min n xs

-- The objects of rows: which there are, and a search for one.
use Rattle.std.proofs.Common.{◌≡◌, ℕ, ◌+◌, ◌<◌, ◌≤◌, Bool, true, false, List, [], ◌∷◌, ◌++◌, length, get_or, map, eqb, Result, Ok, Err, refl, sym, ◌∙◌, ap, arith, inl, inr}
use Rattle.std.specs.Prelude.{◌==◌, ◌||◌, find, is_ok, is_some}
use Rattle.std.specs.List.{Contains, dedup, list_any}
use Rattle.std.specs.List.Sorted.{IsBinarySearchResult, IsSearchInRange, IsSorted, IsStrictlySortedBy}
use Rattle.std.specs.Ordering.{is_lt, nat_cmp}
use Rattle.std.specs.declared.cmp.Ordering.TheVariants.{Less, Equal, Greater}
use Rattle.std.proofs.lemmas.Bool.Decides.{nat_tests}
use Rattle.std.proofs.lemmas.Bool.{cases_Bool, cases_lt, eqb-true}
use Rattle.std.proofs.lemmas.Cmp.{nat_cmp_total}
use Rattle.std.proofs.lemmas.List.Elements.{All-contains, All-from_recursion, Contains-get_or}
use Rattle.std.proofs.lemmas.List.Sorted.{searchable_from_sorted}
use Rattle.std.proofs.lemmas.Map.Keys.{Less-from_sorted}
use Rattle.list_laws.proofs.AscendingLemmas.{same_from_members}
use Rattle.list_laws.proofs.DedupLemmas.{find-dedup}
use Rattle.list_laws.proofs.MemberLemmas.{first_member, later_member, list_any-none, member_cases, member_of_map, none_from_list_any}
use Rattle.list_laws.proofs.PartLemmas.{all_from_members}
use Rattle.track_types.specs.Quantities.{distinct, objects_of}
use Rattle.track_types.specs.Row.{IsAscending, row_order}
use Rattle.track_types.specs.declared.row.Row.{Row}
use Rattle.track_types.proofs.RowLemmas.{object_le}

-- a test passes for some element where a search finds one
pub any_find : {X : Type 0} (p : X → Bool) (xs : List X) → list_any p xs ≡ is_some (find p xs)
any_find p [] = refl
any_find p (x ∷ xs) = grind (arith, any_find p xs)

same_test : (object a b : ℕ) → eqb a b ≡ true → (object == a) ≡ (object == b)
same_test object a b same = grind (arith, nat_tests)

-- numbers without repeats have the same members
pub any-dedup : (object : ℕ) (xs : List ℕ) → list_any (λ o. object == o) (dedup eqb xs) ≡ list_any (λ o. object == o) xs
any-dedup object xs =
    any_find (λ o. object == o) (dedup eqb xs)
    ∙ ap is_some (find-dedup eqb (λ o. object == o) (λ a b same. same_test object a b same) xs)
    ∙ sym (any_find (λ o. object == o) xs)

-- a test for what is made of elements
pub any-map : {X Y : Type 0} (p : Y → Bool) (f : X → Y) (xs : List X) → list_any p (map f xs) ≡ list_any (λ x. p (f x)) xs
any-map p f [] = refl
any-map p f (x ∷ xs) = grind (arith, any-map p f xs)

-- one element more
pub any-push : {X : Type 0} (p : X → Bool) (xs : List X) (x : X) → list_any p (xs ++ x ∷ []) ≡ (list_any p xs || p x)
any-push p [] x = grind (arith)
any-push p (y ∷ xs) x = grind (arith, any-push p xs x)

-- a member that passes
pub any-member : {X : Type 0} (p : X → Bool) (xs : List X) (x : X) → Contains xs x → p x ≡ true → list_any p xs ≡ true
any-member p xs x inside passes = elim (cases_Bool (list_any p xs)) [
  | inl some ↦ some
  | inr none ↦ absurd (let never : true ≡ false = sym passes ∙ none_from_list_any p xs x none inside in cc)
]

not_less : (a b : ℕ) → a ≤ b → is_lt (nat_cmp b a) ≡ false
not_less a b low = grind (arith, nat_tests)

-- rows in order have their objects in order
IsSorted-objects : (rows : List Row) → IsAscending rows → IsSorted (λ a b. nat_cmp a.object b.object) rows
IsSorted-objects rows up k d low high =
    not_less _ _ (object_le (get_or rows k d) (get_or rows (k + 1) d) (Less-from_sorted row_order rows k (k + 1) d up (omega arith) high))

equal_test : (object other : ℕ) → nat_cmp other object ≡ Equal → (object == other) ≡ true
equal_test object other is = grind (arith, nat_tests)

less_test : (object other : ℕ) → nat_cmp other object ≡ Less → (object == other) ≡ false
less_test object other is = grind (arith, nat_tests)

greater_test : (object other : ℕ) → nat_cmp other object ≡ Greater → (object == other) ≡ false
greater_test object other is = grind (arith, nat_tests)

-- a binary search finds whether one of rows in order is of an object
pub any-searched : (rows : List Row) (object : ℕ) (r : Result ℕ ℕ) → IsAscending rows → IsSearchInRange r (length rows) →
    IsBinarySearchResult (λ row. nat_cmp row.object object) rows r → is_ok r ≡ list_any (λ row. object == row.object) rows
any-searched [] object (Ok i) up within answer = absurd (omega (arith, within))
any-searched (first ∷ rows) object (Ok i) up within answer =
    let here : Row = get_or (first ∷ rows) i first in
    sym (any-member (λ row. object == row.object) (first ∷ rows) here (Contains-get_or (first ∷ rows) i first within)
    (equal_test object here.object (answer first)))
any-searched rows object (Err i) up within answer =
    let parted = answer (searchable_from_sorted nat_cmp_total (λ (row : Row). row.object) rows object (IsSorted-objects rows up)) in
    sym (list_any-none (λ row. object == row.object) rows (λ z inside.
    let below : inside.0 < length rows = inside.1 in
    let at : get_or rows inside.0 z ≡ z = inside.2 in
    elim (cases_lt inside.0 i) [
      | inl before ↦ less_test object z.object (rw at at (parted.0 inside.0 z (omega arith) before))
      | inr behind ↦ greater_test object z.object (rw at at (parted.1 inside.0 z behind below))
    ]))

-- distinct numbers are the numbers
member_of_distinct : (xs : List ℕ) (y : ℕ) → Contains (distinct xs) y → Contains xs y
unfolding distinct
member_of_distinct [] y inside = inside
member_of_distinct (x ∷ xs) y inside = elim (cases_Bool (list_any (λ z. x == z) xs)) [
  | inl again ↦ later_member y x xs (member_of_distinct xs y (rw again at inside))
  | inr first ↦ elim (member_cases y x (distinct xs) (rw first at inside)) [
    | inl is ↦ rw (sym is) (first_member x xs)
    | inr later ↦ later_member y x xs (member_of_distinct xs y later)
  ]
]

same_any : (object x : ℕ) (xs : List ℕ) → (object == x) ≡ true → list_any (λ z. x == z) xs ≡ true → list_any (λ z. object == z) xs ≡ true
same_any object x xs is again = ap (λ o. list_any (λ z. o == z) xs) (eqb-true object x is) ∙ again

pub any-distinct : (object : ℕ) (xs : List ℕ) → list_any (λ z. object == z) (distinct xs) ≡ list_any (λ z. object == z) xs
unfolding distinct
any-distinct object [] = refl
any-distinct object (x ∷ xs) = elim (cases_Bool (list_any (λ z. x == z) xs)) [
  | inl again ↦ rw again (any-distinct object xs ∙ elim (cases_Bool (object == x)) [
    | inl is ↦ rw is (same_any object x xs is again)
    | inr not ↦ rw not refl
  ])
  | inr first ↦ rw first (ap (λ b. (object == x) || b) (any-distinct object xs))
]

above_test : (own other : ℕ) → own ≤ other → (own == other) ≡ false → nat_cmp own other ≡ Less
above_test own other low apart = grind (arith, nat_tests)

-- the objects of rows in order rise
pub objects_of-rise : (rows : List Row) → IsAscending rows → IsStrictlySortedBy nat_cmp (objects_of rows)
unfolding distinct IsStrictlySortedBy
objects_of-rise [] up = tt
objects_of-rise (row ∷ rows) up = elim (cases_Bool (list_any (λ z. row.object == z) (map (λ (z : Row). z.object) rows))) [
  | inl again ↦ rw again (objects_of-rise rows up.1)
  | inr first ↦ rw first (
    all_from_members (λ z. nat_cmp row.object z ≡ Less) (objects_of rows) (λ z inside.
        let among = member_of_distinct (map (λ (y : Row). y.object) rows) z inside in
        let from = member_of_map (λ (y : Row). y.object) rows z among in
        let low : row.object ≤ from.0.object = object_le row from.0 (All-contains (λ (y : Row). row_order row y ≡ Less) rows from.0
        (All-from_recursion (λ (y : Row). row_order row y ≡ Less) rows up.0) from.1) in
        above_test row.object z (omega (arith, low, from.2))
        (none_from_list_any (λ y. row.object == y) (map (λ (y : Row). y.object) rows) z first among)),
    objects_of-rise rows up.1,
  )
]

eq_back : (z x : ℕ) → (z == x) ≡ true → x ≡ z
eq_back z x is = grind (arith, nat_tests)

member-any : (xs : List ℕ) (z : ℕ) → list_any (λ y. z == y) xs ≡ true → Contains xs z
member-any [] z any = absurd (cc)
member-any (x ∷ xs) z any = elim (cases_Bool (z == x)) [
  | inl is ↦ rw (sym (eq_back z x is)) (first_member x xs)
  | inr not ↦ later_member z x xs (member-any xs z (rw not at any))
]

self : (z : ℕ) → (z == z) ≡ true
self z = grind (arith, nat_tests)

-- rising numbers among which each is that rows have are their objects
pub objects_of-any : (objects : List ℕ) (rows : List Row) → IsStrictlySortedBy nat_cmp objects → IsAscending rows →
    ((object : ℕ) → list_any (λ o. object == o) objects ≡ list_any (λ (row : Row). object == row.object) rows) → objects ≡ objects_of rows
objects_of-any objects rows rise up same =
    let alike : (z : ℕ) → list_any (λ o. z == o) objects ≡ list_any (λ o. z == o) (objects_of rows) =
    λ z. same z ∙ sym (any-map (λ o. z == o) (λ (row : Row). row.object) rows)
    ∙ sym (any-distinct z (map (λ (row : Row). row.object) rows)) in
    same_from_members nat_cmp_total objects (objects_of rows) rise (objects_of-rise rows up)
    (λ z inside. member-any (objects_of rows) z (sym (alike z) ∙ any-member (λ o. z == o) objects z inside (self z)))
    (λ z inside. member-any objects z (alike z ∙ any-member (λ o. z == o) (objects_of rows) z inside (self z)))

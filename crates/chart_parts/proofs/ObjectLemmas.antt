-- The objects of a chart: they ascend, its rows are those of each object, and each object is read off its run of rows.
use Rattle.std.proofs.Common.{◌≡◌, ℕ, suc, ◌<◌, ◌≤◌, true, false, List, [], ◌∷◌, length, map, get_or, arith, inl, inr, subst, ◌+◌, drop, refl, eq-eqb, ne_eqb}
use Rattle.std.specs.Prelude.{◌==◌, nat_le}
use Rattle.std.specs.List.{Contains, list_any, prefix_len}
use Rattle.std.specs.List.Sorted.{IsNonDecreasingBy, IsStrictlyIncreasing, IsStrictlySortedBy}
use Rattle.std.specs.Ordering.{nat_cmp}
use Rattle.std.specs.declared.cmp.Ordering.TheVariants.{Less}
use Rattle.std.proofs.lemmas.Bool.{cases_Bool, cases_lt}
use Rattle.std.proofs.lemmas.Bool.Decides.{nat_tests}
use Rattle.std.proofs.lemmas.List.{get_or-map, length-map}
use Rattle.std.proofs.lemmas.List.Elements.{Contains-get_or, recursion_from_All}
use Rattle.std.proofs.lemmas.List.Folds.{Any-from_list_any}
use Rattle.std.proofs.lemmas.List.Sorted.{IsNonDecreasingBy-from_default}
use Rattle.std.proofs.lemmas.Map.Keys.{IsStrictlyIncreasing-from_sorted}
use Rattle.list_laws.proofs.KeyedLemmas.{keyed, keyed-sorted}
use Rattle.list_laws.proofs.MemberLemmas.{Contains-map, first_member, later_member, member_cases, none_from_list_any}
use Rattle.track_types.specs.Quantities.{distinct, objects_of}
use Rattle.track_types.specs.Row.{IsAscending}
use Rattle.track_types.specs.declared.row.Row.{Row}
use Rattle.movement_log.specs.Blocks.{no_row, row_at}
use Rattle.movement_log.proofs.RowLemmas.{object_rises}
use Rattle.track_types.proofs.RowLemmas.{object_le}
use Rattle.chart_parts.specs.PeriodWith.{Climbs}

-- what passes a test for a number that stands in a list is a member
member_from_any : (x : ℕ) (xs : List ℕ) → list_any (λ y. x == y) xs ≡ true → Contains xs x
member_from_any x xs any =
    let found = Any-from_list_any (λ y. x == y) xs any in
    let y : ℕ = found.1 in
    let at : get_or xs found.0 y ≡ y = found.3 in
    let test : (x == y) ≡ true = found.4 in
    let is : y ≡ x = grind (arith, nat_tests) in
    subst (Contains xs) is (found.0, found.2, at)

-- the different numbers of a list are its members
pub Contains-distinct : (xs : List ℕ) (x : ℕ) → Contains xs x → Contains (distinct xs) x
unfolding distinct
Contains-distinct [] x inside = inside
Contains-distinct (y ∷ ys) x inside = elim (cases_Bool (list_any (λ other. y == other) ys)) [
  | inl again ↦ rw again (elim (member_cases x y ys inside) [
    | inl same ↦ Contains-distinct ys x (subst (Contains ys) same (member_from_any y ys again))
    | inr later ↦ Contains-distinct ys x later
  ])
  | inr once ↦ rw once (elim (member_cases x y ys inside) [
    | inl same ↦ subst (Contains (y ∷ distinct ys)) same (first_member y (distinct ys))
    | inr later ↦ later_member x y (distinct ys) (Contains-distinct ys x later)
  ])
]

pub Contains-from_distinct : (xs : List ℕ) (x : ℕ) → Contains (distinct xs) x → Contains xs x
unfolding distinct
Contains-from_distinct [] x inside = inside
Contains-from_distinct (y ∷ ys) x inside = elim (cases_Bool (list_any (λ other. y == other) ys)) [
  | inl again ↦ later_member x y ys (Contains-from_distinct ys x (rw again at inside))
  | inr once ↦ elim (member_cases x y (distinct ys) (rw once at inside)) [
    | inl same ↦ rw same (first_member x ys)
    | inr later ↦ later_member x y ys (Contains-from_distinct ys x later)
  ]
]

-- where numbers do not fall, the different ones ascend
distinct-sorted : (xs : List ℕ) → IsNonDecreasingBy (λ x. x) xs → IsStrictlySortedBy nat_cmp (distinct xs)
unfolding distinct IsStrictlySortedBy
distinct-sorted [] rise = tt
distinct-sorted (x ∷ xs) rise =
    let rest = distinct-sorted xs (λ i j d low high. rise (suc i) (suc j) d (omega arith) (omega arith)) in
    elim (cases_Bool (list_any (λ y. x == y) xs)) [
      | inl again ↦ rw again rest
      | inr once ↦ rw once (
        recursion_from_All (λ y. nat_cmp x y ≡ Less) (distinct xs) (λ k d below.
            let y : ℕ = get_or (distinct xs) k d in
            let inside = Contains-from_distinct xs y (Contains-get_or (distinct xs) k d below) in
            let within : inside.0 < length xs = inside.1 in
            let at = inside.2 in
            let up_to : x ≤ y = rw at at (rise 0 (suc inside.0) y (omega arith) (omega arith)) in
            let differs : (x == y) ≡ false = none_from_list_any (λ other. x == other) xs y once inside in
            grind (arith, nat_tests)),
        rest,
      )
    ]

-- a row's object is one of the objects
pub Contains-objects_of : (rows : List Row) (row : Row) → Contains rows row → Contains (objects_of rows) row.object
Contains-objects_of rows row inside =
    Contains-distinct (map (λ other. other.object) rows) row.object
    (Contains-map (λ other. other.object) rows row inside)

module _ (rows : List Row) (up : IsAscending rows) where
  objects-rise : IsNonDecreasingBy (λ row. row.object) rows
  objects-rise = IsNonDecreasingBy-from_default (λ row. row.object) rows no_row (object_rises rows up)

  pub objects_of-sorted : IsStrictlySortedBy nat_cmp (objects_of rows)
  objects_of-sorted =
      distinct-sorted (map (λ row. row.object) rows)
      (IsNonDecreasingBy-from_default (λ x. x) (map (λ row. row.object) rows) no_row.object
      (λ i j low high.
      let within : j < length rows = rw length-map at high in
      let at_i = get_or-map (λ row. row.object) rows i no_row no_row.object (omega arith) in
      let at_j = get_or-map (λ row. row.object) rows j no_row no_row.object within in
      rw (at_i, at_j) (object_rises rows up i j low within)))

  -- the objects of rows ascend
  pub IsStrictlyIncreasing-objects_of : IsStrictlyIncreasing (objects_of rows)
  IsStrictlyIncreasing-objects_of = IsStrictlyIncreasing-from_sorted (objects_of rows) objects_of-sorted

  -- the rows are those of each object, object by object
  pub keyed-objects_of : keyed (λ row. row.object) (objects_of rows) rows ≡ rows
  keyed-objects_of =
      keyed-sorted (λ row. row.object) (objects_of rows) objects_of-sorted rows objects-rise (Contains-objects_of rows)

-- rows that are some have an object
pub objects_of-some : (rows : List Row) → 0 < length rows → 1 ≤ length (objects_of rows)
objects_of-some rows some =
    let inside = Contains-objects_of rows (row_at rows 0) (Contains-get_or rows 0 no_row some) in
    let place : inside.0 < length (objects_of rows) = inside.1 in
    omega arith

-- a number below all that climb from a greater one is none of them
none_above : (n k : ℕ) (xs : List ℕ) → k < n → Climbs n xs → list_any (λ y. k == y) xs ≡ false
none_above n k [] below up = refl
none_above n k (x ∷ xs) below up =
    rw (ne_eqb k x (λ e. let low : n ≤ x = up.0 in omega arith))
    (none_above x k xs (let low : n ≤ x = up.0 in omega arith) up.1)

-- how many rows at the front are of no greater object
abbrev pub run_length : ℕ → List Row → ℕ
run_length object rows = prefix_len (λ row. nat_le row.object object) rows

past_first : (n : ℕ) (row : Row) (rows : List Row) → drop (1 + n) (row ∷ rows) ≡ drop n rows
past_first n row rows = let one : 1 + n ≡ suc n = omega arith in rw one refl

-- of rows in order all those of the first object are passed over at once
distinct-run : (object : ℕ) (rows : List Row) → Climbs object (map (λ row. row.object) rows) →
    distinct (object ∷ map (λ row. row.object) rows)
    ≡ object ∷ objects_of (drop (run_length object rows) rows)
unfolding distinct
distinct-run object [] up = refl
distinct-run object (row ∷ rest) up = elim (cases_lt object row.object) [
  | inl above ↦
      let other : (object == row.object) ≡ false = ne_eqb object row.object (λ e. omega arith) in
      let past : nat_le row.object object ≡ false = grind (arith, nat_tests) in
      rw (other, none_above row.object object (map (λ r. r.object) rest) above up.1, past) refl
  | inr not ↦
      let low : object ≤ row.object = up.0 in
      let same : row.object ≡ object = omega arith in
      let within : nat_le row.object object ≡ true = grind (arith, nat_tests) in
      rw (within, same, eq-eqb object object refl, past_first (run_length object rest) _ rest)
      (distinct-run object rest (rw same at up.1))
]

climbs-objects : (row : Row) (rest : List Row) → IsAscending (row ∷ rest) → Climbs row.object (map (λ r. r.object) rest)
unfolding IsStrictlySortedBy
climbs-objects row [] up = tt
climbs-objects row (next ∷ rest) up = (object_le row next up.0.0, climbs-objects next rest up.1)

-- the objects of rows in order: the first row's, and those of the rows after its run
pub objects_of-run : (row : Row) (rest : List Row) → IsAscending (row ∷ rest) →
    objects_of (row ∷ rest)
    ≡ row.object ∷ objects_of (drop (run_length row.object (row ∷ rest)) (row ∷ rest))
objects_of-run row rest up =
    let within : nat_le row.object row.object ≡ true = grind (arith, nat_tests) in
    rw (within, past_first (run_length row.object rest) row rest)
    (distinct-run row.object rest (climbs-objects row rest up))

-- the same where the first row is read at its place
pub objects_of-first : (rows : List Row) (none : Row) → 0 < length rows → IsAscending rows →
    objects_of rows ≡ (get_or rows 0 none).object ∷ objects_of (drop (run_length (get_or rows 0 none).object rows) rows)
objects_of-first [] none some up = absurd (omega arith)
objects_of-first (row ∷ rest) none some up = objects_of-run row rest up

-- no row has no object
pub no_objects : (rows : List Row) → length rows < 1 → objects_of rows ≡ []
unfolding distinct
no_objects [] none = refl
no_objects (row ∷ rest) none = absurd (omega arith)

-- A path has few stops: no two are at one instant.
use Rattle.std.proofs.Common.{◌≡◌, ℕ, zero, suc, ◌^◌, ◌≤◌, true, ◌&&◌, List, [], ◌∷◌, length, filter, refl}
use Rattle.std.proofs.Common.{sym, arith, ℤ, pos, ◌+ℤ◌, ◌≤ℤ◌, ◌<ℤ◌, ◌==◌, subst, to_z, of_z, w64, inl, inr}
use Rattle.std.specs.Prelude.{◌<◌, Option, Some, None, option_to_list}
use Rattle.std.specs.List.{AllByRecursion}
use Rattle.std.specs.Ordering.{int_cmp, nat_cmp, ordering_then}
use Rattle.std.specs.declared.cmp.Ordering.TheVariants.{Less}
use Rattle.std.proofs.lemmas.Bool.{cases_Bool}
use Rattle.std.proofs.lemmas.Bool.Decides.{nat_tests}
use Rattle.std.proofs.lemmas.Int.{ints, to_z-of_z}
use Rattle.std.proofs.lemmas.List.{length-map}
use Rattle.std.proofs.lemmas.Map.Keys.{sorted_head, sorted_tail}
use Rattle.track_types.specs.ByFilter.{is_row_between, path_of, stop_of}
use Rattle.track_types.specs.Near.{IsAsked}
use Rattle.track_types.specs.Region.{is_between}
use Rattle.track_types.specs.Row.{IsAscending, row_order}
use Rattle.track_types.specs.declared.row.Row.{Row}
use Rattle.question_shell.specs.declared.item.Item.{Item}

-- what a row between is
between-facts : (object : ℕ) (from to : ℤ) (row : Row) → is_row_between object from to row ≡ true →
    (object ≡ row.object) × (from ≤ℤ row.instant) × (row.instant ≤ℤ to)
between-facts object from to row meets =
    (grind (arith, ints, nat_tests), grind (arith, ints, nat_tests), grind (arith, ints, nat_tests))

-- the instant of a later row of one object is greater
later : (object other : ℕ) (a b : ℤ) →
    ordering_then (nat_cmp object other) (int_cmp a b) ≡ Less → object ≡ other → a <ℤ b
later object other a b less same = grind (arith, ints, nat_tests)

-- a later row is one from an instant on where it is one from the next on
same_test : (object other : ℕ) (from to a b : ℤ) → from ≤ℤ a →
    ordering_then (nat_cmp object other) (int_cmp a b) ≡ Less →
    ((object == other) && is_between from to b) ≡ ((object == other) && is_between (a +ℤ pos 1) to b)
same_test object other from to a b after less = elim (cases_Bool (object == other)) [
  | inl same ↦
      let above : a <ℤ b = later object other a b less (grind (arith, nat_tests)) in
      rw same (grind (arith, ints))
  | inr apart ↦ rw apart refl
]

-- of the rows after one, those from its instant on are those from the next instant on
from_next : (row : Row) (rows : List Row) (from to : ℤ) → from ≤ℤ row.instant →
    AllByRecursion (λ other. row_order row other ≡ Less) rows →
    filter (is_row_between row.object from to) rows
    ≡ filter (is_row_between row.object (row.instant +ℤ pos 1) to) rows
from_next row [] from to after less = refl
from_next row (other ∷ rows) from to after (first, rest) =
    rw (
      same_test row.object other.object from to row.instant other.instant after first,
      from_next row rows from to after rest,
    ) refl

-- as many as there are instants
few : (object : ℕ) (rows : List Row) (from to : ℤ) (n : ℕ) → IsAscending rows → to <ℤ (from +ℤ pos n) →
    length (filter (is_row_between object from to) rows) ≤ n
few object [] from to n up width = omega arith
few object (row ∷ rows) from to zero up width = elim (cases_Bool (is_row_between object from to row)) [
  | inl meets ↦
      let facts = between-facts object from to row meets in
      absurd (omega (arith, ints, facts.1, facts.2))
  | inr fails ↦ rw fails (few object rows from to zero (sorted_tail row_order row rows up) width)
]
few object (row ∷ rows) from to (suc n) up width = elim (cases_Bool (is_row_between object from to row)) [
  | inl meets ↦
      let facts = between-facts object from to row meets in
      let narrow : to <ℤ ((row.instant +ℤ pos 1) +ℤ pos n) = omega (arith, ints, facts.1, facts.2) in
      let less = few row.object rows (row.instant +ℤ pos 1) to n (sorted_tail row_order row rows up) narrow in
      let same = from_next row rows from to facts.1 (sorted_head row_order row rows up) in
      let P : ℕ → Type 0 = λ other. length (filter (is_row_between other from to) rows) ≤ n in
      rw meets (omega (arith, subst P (sym facts.0) (rw same less)))
  | inr fails ↦ rw fails (few object rows from to (suc n) (sorted_tail row_order row rows up) width)
]

pub length-path_of : (rows : List Row) (object : ℕ) (from to : ℤ) → IsAscending rows → IsAsked from → IsAsked to →
    length (path_of rows object from to) ≤ 2 ^ 43
length-path_of rows object from to up low high =
    let width : to <ℤ (from +ℤ pos (2 ^ 43)) = omega (arith, ints, low.low, high.high) in
    rw (length-map (filter (is_row_between object from to) rows) stop_of) (few object rows from to (2 ^ 43) up width)

-- an instant that may be asked for fits a word
pub asked_kept : (z : ℤ) → IsAsked z → to_z w64 (of_z w64 z) ≡ z
asked_kept z asked = to_z-of_z w64 z (omega (arith, ints, asked.low, asked.high))

-- at most one item is few
pub few-one : (found : Option Item) → length (option_to_list found) < 2 ^ 64
few-one None = omega arith
few-one (Some found) = omega arith

-- What holds of the rows of every chart.
use Rattle.std.proofs.Common.{◌≡◌, ℕ, ◌<◌, ◌≤◌, Bool, true, false, List, [], ◌∷◌, length, map, refl, ◌∙◌, ap, arith}
use Rattle.std.specs.Prelude.{All, ℤ, pos, find, reverse, option_map}
use Rattle.std.specs.List.{AllByRecursion, list_any}
use Rattle.std.proofs.lemmas.List.Sorted.{length_permutation}
use Rattle.std.proofs.lemmas.List.{length-map}
use Rattle.std.proofs.lemmas.List.Elements.{All-from_recursion, recursion_from_All}
use Rattle.std.proofs.lemmas.Bool.Decides.{nat_tests}
use Rattle.track_types.specs.ByFilter.{cell_at}
use Rattle.track_types.specs.Near.{IsRawInRange, IsRowInRange}
use Rattle.track_types.specs.Row.{is_row_of, is_same_place, row_order}
use Rattle.track_types.specs.declared.raw_row.RawRow.{RawRow}
use Rattle.track_types.specs.declared.row.Row.{Row}
use Rattle.list_laws.specs.Ordered.{ordered}
use Rattle.list_laws.proofs.MemberLemmas.{some_from_any}
use Rattle.list_laws.proofs.OrderedLemmas.{IsPermutation-ordered, all-ordered, any-ordered}
use Rattle.gridding.proofs.KeptLemmas.{any-last_of_each_instant, found-chart_rows, place_equiv}
use Rattle.gridding.specs.ChartOf.{chart_rows, gridded, last_of_each_instant}

-- what holds of all rows holds of those that are kept
all-kept_at : (P : Row → Type 0) (row : Row) (later : List Row) (again : Bool) → list_any (is_same_place row) later ≡ again → P row →
    AllByRecursion P (last_of_each_instant later) → AllByRecursion P (last_of_each_instant (row ∷ later))
unfolding last_of_each_instant
all-kept_at P row later true again one all = rw again all
all-kept_at P row later false again one all = rw again (one, all)

pub all-last_of_each_instant : (P : Row → Type 0) (rows : List Row) → AllByRecursion P rows → AllByRecursion P (last_of_each_instant rows)
all-last_of_each_instant P [] all = unfold last_of_each_instant in tt
all-last_of_each_instant P (row ∷ later) all = all-kept_at P row later (list_any (is_same_place row) later) refl all.0 (all-last_of_each_instant P later all.1)

-- a raw row in range is gridded to a row in range
pub IsRowInRange-gridded : (raw : RawRow) (cell tick : ℕ) → IsRawInRange raw → IsRowInRange (gridded cell tick raw)
IsRowInRange-gridded raw cell tick near = grind (arith, nat_tests)

-- they are in range
pub chart_rows-in_range : (raws : List RawRow) (cell tick : ℕ) → All IsRawInRange raws → All IsRowInRange (chart_rows raws cell tick)
unfolding chart_rows
chart_rows-in_range raws cell tick near =
    All-from_recursion IsRowInRange (chart_rows raws cell tick)
    (all-ordered row_order IsRowInRange (last_of_each_instant (map (gridded cell tick) raws))
    (all-last_of_each_instant IsRowInRange (map (gridded cell tick) raws) (gridded_all raws (recursion_from_All IsRawInRange raws near)))) where
      gridded_all : (raws : List RawRow) → AllByRecursion IsRawInRange raws → AllByRecursion IsRowInRange (map (gridded cell tick) raws)
      gridded_all [] all = tt
      gridded_all (raw ∷ raws) all = (IsRowInRange-gridded raw cell tick all.0, gridded_all raws all.1)

-- there are not more than raw rows
length-kept_at : (row : Row) (later : List Row) (again : Bool) → list_any (is_same_place row) later ≡ again →
    length (last_of_each_instant later) ≤ length later → length (last_of_each_instant (row ∷ later)) ≤ length (row ∷ later)
unfolding last_of_each_instant
length-kept_at row later true again behind = rw again (omega arith)
length-kept_at row later false again behind = rw again (omega arith)

length-last_of_each_instant : (rows : List Row) → length (last_of_each_instant rows) ≤ length rows
length-last_of_each_instant [] = unfold last_of_each_instant in omega arith
length-last_of_each_instant (row ∷ later) = length-kept_at row later (list_any (is_same_place row) later) refl (length-last_of_each_instant later)

pub chart_rows-few : (raws : List RawRow) (cell tick : ℕ) → length (chart_rows raws cell tick) ≤ length raws
unfolding chart_rows
chart_rows-few raws cell tick =
    let rows = last_of_each_instant (map (gridded cell tick) raws) in
    rw (length_permutation rows (ordered row_order rows) (IsPermutation-ordered row_order rows), ← length-map raws (gridded cell tick))
    (length-last_of_each_instant (map (gridded cell tick) raws))

-- there is one where there is a raw row
pub chart_rows-some : (raws : List RawRow) (cell tick : ℕ) → 0 < length raws → 0 < length (chart_rows raws cell tick)
unfolding chart_rows
chart_rows-some [] cell tick some = absurd (omega arith)
chart_rows-some (raw ∷ raws) cell tick some =
    let row = gridded cell tick raw in
    let rows = map (gridded cell tick) (raw ∷ raws) in
    let here : list_any (is_same_place row) rows ≡ true = rw (place_equiv.refl row) refl in
    some_from_any (is_same_place row) (ordered row_order (last_of_each_instant rows)) (any-ordered row_order (is_same_place row) (last_of_each_instant rows) ∙ any-last_of_each_instant row rows ∙ here)

-- so where there is none, there is no raw row
pub chart_rows-none : (raws : List RawRow) (cell tick : ℕ) → length (chart_rows raws cell tick) ≡ 0 → raws ≡ []
chart_rows-none [] cell tick none = refl
chart_rows-none (raw ∷ raws) cell tick none = absurd (omega (arith, none, chart_rows-some (raw ∷ raws) cell tick (omega arith)))

-- the cell of an object at an instant is that of its last raw row in the instant
pub cell_at-chart_rows : (raws : List RawRow) (cell tick object : ℕ) (instant : ℤ) →
    cell_at (chart_rows raws cell tick) object instant
    ≡ option_map (λ row. row.cell) (find (is_row_of object instant) (reverse (map (gridded cell tick) raws)))
unfolding chart_rows
cell_at-chart_rows raws cell tick object instant =
    let sought : Row = record { object = object; instant = instant; cell = record { x = pos 0; y = pos 0 } } in
    ap (option_map (λ row. row.cell)) (found-chart_rows sought (map (gridded cell tick) raws))

-- The rows of the chart of all raw rows are those of the charts of some and of the others, as one.
use Rattle.std.proofs.Common.{◌≡◌, ℕ, ℤ, Bool, true, false, List, [], ◌∷◌, ◌++◌, map, find, refl, sym, ◌∙◌, ap, arith, inl, inr}
use Rattle.std.specs.Prelude.{◌&&◌, ◌==◌, reverse, option_map, Some}
use Rattle.std.specs.List.{list_any}
use Rattle.std.specs.Option.{option_or}
use Rattle.std.specs.Ordering.{eq_by_cmp, int_eq}
use Rattle.std.proofs.lemmas.Bool.{cases_Bool}
use Rattle.std.proofs.lemmas.Bool.Decides.{nat_tests}
use Rattle.std.proofs.lemmas.List.{map-append, reverse-append}
use Rattle.std.proofs.lemmas.List.Folds.{find-append}
use Rattle.list_laws.specs.Ordered.{AreApart}
use Rattle.list_laws.proofs.AscendingLemmas.{find-agree, same_from_finds}
use Rattle.list_laws.proofs.MemberLemmas.{list_any-agree}
use Rattle.list_laws.proofs.OrderedLemmas.{IsStrictlySortedBy-ordered}
use Rattle.track_types.proofs.RowLemmas.{eq_by_cmp-row_order, row_order_total}
use Rattle.track_types.specs.ByFilter.{cell_at}
use Rattle.track_types.specs.Row.{IsAscending, is_row_of, is_same_place, row_order}
use Rattle.track_types.specs.declared.cell.Cell.{Cell}
use Rattle.track_types.specs.declared.raw_row.RawRow.{RawRow}
use Rattle.track_types.specs.declared.row.Row.{Row}
use Rattle.gridding.specs.ChartOf.{chart_rows, gridded, last_of_each_instant}
use Rattle.gridding.proofs.ChartLemmas.{cell_at-chart_rows}
use Rattle.path_union.specs.AsBuilt.{AreRowsAsBuilt}
use Rattle.path_union.specs.Union.{rows_of_both}
use Rattle.path_union.proofs.RowsLemmas.{IsAscending-rows_of_both, find-rows_of_both}

-- no test passes for a row that is kept, where it passes for none
none-kept : (p : Row → Bool) (rows : List Row) → list_any p rows ≡ false → list_any p (last_of_each_instant rows) ≡ false
unfolding last_of_each_instant
none-kept p [] none = refl
none-kept p (row ∷ later) none = elim (cases_Bool (p row)) [
  | inl meets ↦ let never : true ≡ false = sym (rw meets refl) ∙ none in absurd (cc)
  | inr fails ↦
      let rest = none-kept p later (rw fails at none) in
      elim (cases_Bool (list_any (is_same_place row) later)) [
        | inl again ↦ rw again rest
        | inr last ↦ rw (last, fails) rest
      ]
]

-- no two of those that are kept are of one place
apart-kept : (rows : List Row) → AreApart row_order (last_of_each_instant rows)
unfolding last_of_each_instant
apart-kept [] = tt
apart-kept (row ∷ later) = elim (cases_Bool (list_any (is_same_place row) later)) [
  | inl again ↦ rw again (apart-kept later)
  | inr last ↦ rw last (
    list_any-agree _ _ (λ y. eq_by_cmp-row_order row y) (last_of_each_instant later) ∙ none-kept (is_same_place row) later last,
    apart-kept later,
  )
]

-- a row by its parts
abbrev row_with : ℕ → ℤ → Cell → Row
row_with object instant cell = record { object = object; instant = instant; cell = cell }

module _ (object : ℕ) (instant : ℤ) where
  its_own : (other : ℕ) (also : ℤ) (cell : Cell) → ((object == other) && int_eq instant also) ≡ true
      → row_with other also cell ≡ row_with object instant cell
  its_own other also cell is =
      let one : other ≡ object = grind (arith, nat_tests) in
      let both : also ≡ instant = grind (arith, nat_tests) in
      rw (one, both) refl

  -- the row of a place is known by its cell
  find-by_cell : (rows : List Row) → find (is_row_of object instant) rows ≡ option_map (row_with object instant) (cell_at rows object instant)
  find-by_cell [] = refl
  find-by_cell (row ∷ rows) = elim (cases_Bool (is_row_of object instant row)) [
    | inl meets ↦ rw meets (ap Some (its_own row.object row.instant row.cell meets))
    | inr fails ↦ rw fails (find-by_cell rows)
  ]

module _ (cell tick : ℕ) where
  ascending-chart_rows : (raws : List RawRow) → IsAscending (chart_rows raws cell tick)
  unfolding chart_rows
  ascending-chart_rows raws =
      IsStrictlySortedBy-ordered row_order row_order_total (last_of_each_instant (map (gridded cell tick) raws))
      (apart-kept (map (gridded cell tick) raws))

  -- a search finds the last raw row of its place
  find-chart_rows : (place : Row) (raws : List RawRow)
      → find (eq_by_cmp row_order place) (chart_rows raws cell tick)
      ≡ find (is_same_place place) (reverse (map (gridded cell tick) raws))
  find-chart_rows place raws =
      find-agree _ _ (λ row. eq_by_cmp-row_order place row) (chart_rows raws cell tick)
      ∙ find-by_cell place.object place.instant (chart_rows raws cell tick)
      ∙ ap (option_map (row_with place.object place.instant)) (cell_at-chart_rows raws cell tick place.object place.instant)
      ∙ sym (find-by_cell place.object place.instant (reverse (map (gridded cell tick) raws)))

  module _ (raws more : List RawRow) where
    reversed : reverse (map (gridded cell tick) (raws ++ more))
        ≡ reverse (map (gridded cell tick) more) ++ reverse (map (gridded cell tick) raws)
    reversed =
        ap reverse (map-append (gridded cell tick) raws more)
        ∙ reverse-append (map (gridded cell tick) raws) (map (gridded cell tick) more)

    find-both : (place : Row)
        → find (eq_by_cmp row_order place) (rows_of_both (chart_rows raws cell tick) (chart_rows more cell tick))
        ≡ find (eq_by_cmp row_order place) (chart_rows (raws ++ more) cell tick)
    find-both place =
        find-rows_of_both place (chart_rows raws cell tick) (chart_rows more cell tick)
        ∙ ap (λ found. option_or found (find (eq_by_cmp row_order place) (chart_rows raws cell tick))) (find-chart_rows place more)
        ∙ ap (option_or (find (is_same_place place) (reverse (map (gridded cell tick) more)))) (find-chart_rows place raws)
        ∙ sym (find-append (is_same_place place) (reverse (map (gridded cell tick) more)) (reverse (map (gridded cell tick) raws)))
        ∙ ap (find (is_same_place place)) (sym reversed)
        ∙ sym (find-chart_rows place (raws ++ more))

    pub chart_rows-both : rows_of_both (chart_rows raws cell tick) (chart_rows more cell tick) ≡ chart_rows (raws ++ more) cell tick
    chart_rows-both =
        same_from_finds row_order_total _ _
        (IsAscending-rows_of_both (chart_rows raws cell tick) (chart_rows more cell tick) (ascending-chart_rows raws) (ascending-chart_rows more))
        (ascending-chart_rows (raws ++ more)) find-both

  -- so for rows that were gridded from them
  pub as_built : (older later : List Row) → AreRowsAsBuilt older later cell tick
  as_built older later raws more from_raws from_more = rw (from_raws, from_more) (chart_rows-both raws more)

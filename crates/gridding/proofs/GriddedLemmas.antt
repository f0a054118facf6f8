-- Rows in order that are found as in blocks of raw rows are those of the chart of the raw rows.
use Rattle.std.proofs.Common.{◌≡◌, ◌≢◌, ℕ, ◌+◌, ◌<◌, length, take, get_or, true, false, List, [], ◌∷◌, ◌++◌, filter, map, refl, sym, ◌∙◌, ap, arith}
use Rattle.std.specs.Prelude.{find, reverse, slice_get, ◌==◌}
use Rattle.std.specs.Option.{option_or}
use Rattle.std.specs.Ordering.{eq_by_cmp}
use Rattle.std.proofs.lemmas.Bool.{and_parts}
use Rattle.std.proofs.lemmas.Bool.Decides.{nat_tests}
use Rattle.std.proofs.lemmas.List.{append_assoc, map-append, reverse-append, take_more}
use Rattle.std.proofs.lemmas.List.Folds.{find-append}
use Rattle.std.proofs.lemmas.List.Elements.{filter-append}
use Rattle.list_laws.proofs.AscendingLemmas.{find-agree, same_from_finds}
use Rattle.list_laws.proofs.FilterLemmas.{filter-own_key, filter-reverse}
use Rattle.list_laws.proofs.OrderedLemmas.{find-filter}
use Rattle.track_types.proofs.RowLemmas.{eq_by_cmp-row_order, row_order_total}
use Rattle.track_types.specs.Row.{IsAscending, is_same_place, row_order}
use Rattle.track_types.specs.declared.raw_row.RawRow.{RawRow}
use Rattle.track_types.specs.declared.row.Row.{Row}
use Rattle.list_laws.specs.Ordered.{ordered}
use Rattle.gridding.specs.Blocks.{ObjectRun, rows_of_runs, rows_with, runs_of, runs_with}
use Rattle.gridding.specs.ChartOf.{chart_rows, gridded, last_of_each_instant}
use Rattle.gridding.specs.GridLimit.{IsGridFault, IsRefusal, first_past}
use Rattle.gridding.specs.declared.fault.GridFault.{GridFault}
use Rattle.gridding.specs.declared.fault.GridFault.TheVariants.{Empty, Limit, Memory}
use Rattle.gridding.specs.GriddedRows.{AreBlocksOf, HoldsRows, HasGridded}
use Rattle.gridding.specs.declared.gridded_rows.GriddedRows.{GriddedRows}
use Rattle.gridding.specs.PackedPlace.{packed_row}
use Rattle.gridding.specs.declared.packed_place.PackedPlace.{PackedPlace}
use Rattle.gridding.specs.declared.track_blocks.TrackBlocks.{TrackBlocks}
use Rattle.gridding.proofs.KeptLemmas.{ascending-last_of_each_instant, found, found-chart_rows}
use Rattle.gridding.specs.declared.packed_place.Origin.{Origin}

module _ (origin : Origin) where
  -- a run has rows of its object alone
  rows_with-own : (object : ℕ) (places : List PackedPlace) →
      rows_with object (map (packed_row origin object) places) ≡ map (packed_row origin object) places
  rows_with-own object [] = refl
  rows_with-own object (place ∷ places) = grind (arith, nat_tests, rows_with-own object places)

  rows_with-other : (object other : ℕ) (places : List PackedPlace) → (other == object) ≡ false →
      rows_with object (map (packed_row origin other) places) ≡ []
  rows_with-other object other [] differ = refl
  rows_with-other object other (place ∷ places) differ = rw differ (rows_with-other object other places differ)

  -- so an object's rows are those of its runs
  rows_with-runs : (object : ℕ) (runs : List ObjectRun) →
      rows_with object (rows_of_runs origin runs) ≡ rows_of_runs origin (runs_with object runs)
  rows_with-runs object [] = refl
  rows_with-runs object (run ∷ runs) = grind (arith, nat_tests, rows_with-runs object runs, filter-append, rows_with-own, rows_with-other)

-- blocks of the rows that are in blocks have the rows that those have
pub blocks_anew : (rows : List Row) (old new : TrackBlocks) → AreBlocksOf rows old →
    AreBlocksOf (rows_of_runs old.origin (runs_of old)) new → AreBlocksOf rows new
blocks_anew rows old new blocks made = grind (arith, nat_tests, rows_with-runs)

-- a search for a place looks at the rows of its object alone
found-by_object : (sought : Row) (rows : List Row) →
    found sought (reverse rows) ≡ slice_get (reverse (filter (is_same_place sought) (rows_with sought.object rows))) 0
found-by_object sought rows =
    let own : (row : Row) → is_same_place sought row ≡ true → row.object ≡ sought.object = λ row same.
    let is : (sought.object == row.object) ≡ true = (and_parts _ _ same).0 in grind (arith, nat_tests) in
    find-filter (is_same_place sought) (reverse rows)
    ∙ ap (λ all. slice_get all 0) (filter-reverse (is_same_place sought) rows)
    ∙ ap (λ all. slice_get (reverse all) 0) (sym (filter-own_key (is_same_place sought) (λ row. row.object) sought.object own rows))

found-blocks : (rows : List Row) (tracks : TrackBlocks) → AreBlocksOf rows tracks → (sought : Row) →
    found sought (reverse (rows_of_runs tracks.origin (runs_of tracks))) ≡ found sought (reverse rows)
found-blocks rows tracks blocks sought = grind (arith, nat_tests, found-by_object, rows_with-runs)

-- with rows after, these are searched first
found-after : (sought : Row) (front back : List Row) →
    found sought (reverse (front ++ back)) ≡ option_or (found sought (reverse back)) (found sought (reverse front))
found-after sought front back =
    ap (found sought) (reverse-append front back) ∙ find-append (is_same_place sought) (reverse back) (reverse front)

-- the rows of blocks, and then the loose ones
abbrev rows_held : GriddedRows → List Row
rows_held all = rows_of_runs all.tracks.origin (runs_of all.tracks) ++ all.loose.items

found-held : (rows : List Row) (all : GriddedRows) → HoldsRows rows all → (sought : Row) →
    found sought (reverse (rows_held all)) ≡ found sought (reverse rows)
found-held rows all held sought = grind (arith, nat_tests, found-after, found, found-blocks)

-- rows in order that are found as in the rows that are held are those of the chart
pub chart_rows-held : (raws : List RawRow) (cell tick : ℕ) (all : GriddedRows) (made : List Row) → HasGridded cell tick raws all →
    IsAscending made → ((sought : Row) → found sought made ≡ found sought (reverse (rows_held all))) →
    made ≡ chart_rows raws cell tick
unfolding chart_rows
chart_rows-held raws cell tick all made has up finds =
    let rows : List Row = map (gridded cell tick) raws in
    same_from_finds row_order_total made (ordered row_order (last_of_each_instant rows)) up (ascending-last_of_each_instant rows)
    (λ sought.
    let by_place : (all : List Row) → find (eq_by_cmp row_order sought) all ≡ found sought all =
    find-agree (eq_by_cmp row_order sought) (is_same_place sought) (eq_by_cmp-row_order sought) in
    by_place made ∙ finds sought ∙ found-held rows all has.held sought ∙ sym (found-chart_rows sought rows)
    ∙ sym (by_place (ordered row_order (last_of_each_instant rows))))

-- the refusal of the rows of the chart of raw rows is a fault of these
pub IsGridFault-refusal : (raws : List RawRow) (cell tick period : ℕ) (fault : GridFault) → raws ≢ [] →
    IsRefusal (first_past (chart_rows raws cell tick) period) fault → IsGridFault raws cell tick period fault
IsGridFault-refusal raws cell tick period (Limit kind value) some refusal = (some, refusal)
IsGridFault-refusal raws cell tick period Empty some refusal = absurd refusal
IsGridFault-refusal raws cell tick period Memory some refusal = tt

-- one raw row more is held
pub HoldsRows-more : (cell tick : ℕ) (raws rows : List RawRow) (i : ℕ) (d : RawRow) (own_cell own_tick : ℕ) (row : Row) (all : GriddedRows) →
    i < length rows → own_cell ≡ cell → own_tick ≡ tick → row ≡ gridded own_cell own_tick (get_or rows i d) →
    HoldsRows (map (gridded cell tick) (raws ++ take i rows) ++ row ∷ []) all → HoldsRows (map (gridded cell tick) (raws ++ take (i + 1) rows)) all
HoldsRows-more cell tick raws rows i d own_cell own_tick row all below by_cell by_tick is held =
    let g : RawRow → Row = gridded cell tick in
    let more : raws ++ take (i + 1) rows ≡ (raws ++ take i rows) ++ get_or rows i d ∷ [] =
    ap (λ part. raws ++ part) (take_more rows i d below) ∙ sym (append_assoc raws (take i rows) (get_or rows i d ∷ [])) in
    let own : row ≡ g (get_or rows i d) = rw (by_cell, by_tick) at is in
    rw (more, map-append g (raws ++ take i rows) (get_or rows i d ∷ []), ← own) held

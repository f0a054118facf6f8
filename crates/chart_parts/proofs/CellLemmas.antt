-- The cells that the values after a row lead to are those of its object's rows, and the stops there are these rows.
use Rattle.std.proofs.Common.{◌≡◌, ℕ, zero, suc, ◌+◌, ◌<◌, true, false, List, ◌∷◌, length, map, get_or, None, Some, arith, refl, sym, ◌∙◌, ap, inl, inr, [], filter, subst}
use Rattle.std.specs.Prelude.{ℤ, pos, ◌+ℤ◌, ◌-ℤ◌, ◌<ℤ◌, ◌≤ℤ◌, find}
use Rattle.std.specs.List.{Contains, range_with_len, flat_map}
use Rattle.std.specs.List.Sorted.{IsStrictlySortedBy}
use Rattle.std.specs.Ordering.{eq_by_cmp, is_eq}
use Rattle.std.proofs.lemmas.Bool.Decides.{nat_tests}
use Rattle.std.proofs.lemmas.Int.{by_lt_z, ints}
use Rattle.std.proofs.lemmas.List.Elements.{Contains-get_or}
use Rattle.std.proofs.lemmas.Map.Keys.{Less-from_sorted}
use Rattle.std.proofs.lemmas.List.Kept.{IsStrictlySortedBy-filter}
use Rattle.list_laws.proofs.MemberLemmas.{find_cases, member_of_filter, member_of_flat_map, Contains-filter, filter-none, first_member, member_cases, no_member}
use Rattle.list_laws.proofs.PlaceLemmas.{find_last_at}
use Rattle.list_laws.proofs.AscendingLemmas.{find-member, same_from_members}
use Rattle.spiral_code.specs.Spiral.{code_of, move_of}
use Rattle.spiral_code.proofs.SpiralLemmas.{move_of-code_of}
use Rattle.track_types.specs.ByFilter.{cell_at}
use Rattle.track_types.specs.Chart.{ChartView, IsChart}
use Rattle.track_types.specs.Quantities.{anchors_of, first_of, is_anchor, log_length, period_count, span_of}
use Rattle.track_types.specs.Row.{IsAscending, is_row_of, row_order, place_of, place_order}
use Rattle.track_types.specs.declared.cell.Cell.{Cell}
use Rattle.track_types.specs.declared.row.Row.{Row}
use Rattle.rule_store.specs.Cells.{cells_along, moved}
use Rattle.movement_log.specs.Logs.{anchors_in, block_anchors, values_after}
use Rattle.movement_log.specs.Values.{is_before, last_before, value_at}
use Rattle.movement_log.proofs.RowLemmas.{earlier, instant_lt, not_earlier, row_of as passes_at}
use Rattle.track_types.proofs.RowLemmas.{row_order_total}
use Rattle.rule_store.specs.Log.{stop_at, stops_from}
use Rattle.snapshots.specs.Parts.{row_of}

-- a movement by its code leads to the cell from which it was made
moved-code_of : (from to : Cell) → moved from (move_of (code_of (to.x -ℤ from.x) (to.y -ℤ from.y))) ≡ to
moved-code_of from to =
    let columns : from.x +ℤ (to.x -ℤ from.x) ≡ to.x = omega (arith, ints) in
    let lines : from.y +ℤ (to.y -ℤ from.y) ≡ to.y = omega (arith, ints) in
    rw (move_of-code_of (to.x -ℤ from.x) (to.y -ℤ from.y), columns, lines) refl

-- a row is the last of an object's rows before an instant
record IsLast (rows : List Row) (object : ℕ) (instant : ℤ) (row : Row) : Type 0 where
  among : Contains rows row
  same : row.object ≡ object
  before : row.instant <ℤ instant
  last : (other : Row) → Contains rows other → other.object ≡ object → other.instant <ℤ instant →
      other.instant ≤ℤ row.instant

-- the object and the instant of a row that passes the test for them
pub place_from_test : (object : ℕ) (instant : ℤ) (row : Row) → is_row_of object instant row ≡ true →
    (row.object ≡ object) × (row.instant ≡ instant)
place_from_test object instant row passes = (grind (arith, nat_tests, ints), grind (arith, nat_tests, ints))

module _ (rows : List Row) (object : ℕ) where
  last_before-last : IsAscending rows → (instant : ℤ) (row : Row) → IsLast rows object instant row →
      last_before rows object instant ≡ Some row
  last_before-last up instant row is =
      let i : ℕ = is.among.0 in
      let within : i < length rows = is.among.1 in
      let at : get_or rows i row ≡ row = is.among.2 in
      find_last_at (is_before object instant) row rows i within
      (ap (is_before object instant) at ∙ earlier object instant row is.same is.before)
      (λ k later inside. not_earlier object instant (get_or rows k row) (λ alike.
      let order = rw at at (Less-from_sorted row_order rows i k row up later inside) in
      let other : Row = get_or rows k row in
      let after : row.instant <ℤ other.instant = instant_lt row other order (is.same ∙ sym alike) in
      by_lt_z other.instant instant
      (λ less.
      let no = is.last other (Contains-get_or rows k row inside) alike less in
      absurd (omega (arith, ints)))
      (λ not. not)))
      ∙ ap Some at

  IsLast-absent : (instant : ℤ) (row : Row) → IsLast rows object instant row →
      ((other : Row) → Contains rows other → is_row_of object instant other ≡ false) →
      IsLast rows object (instant +ℤ pos 1) row
  IsLast-absent instant row is none = record {
    among = is.among;
    same = is.same;
    before = let before = is.before in omega (arith, ints);
    last = λ other among alike less. by_lt_z other.instant instant
        (λ earlier. is.last other among alike earlier)
        (λ not. let here = passes_at object instant other alike (omega (arith, ints)) in
        let fails = none other among in absurd (cc));
  }

  IsLast-present : (instant : ℤ) (row : Row) → Contains rows row → is_row_of object instant row ≡ true →
      IsLast rows object (instant +ℤ pos 1) row
  IsLast-present instant row among passes =
      let place = place_from_test object instant row passes in
      let at : row.instant ≡ instant = place.1 in
      record {
        among = among;
        same = place.0;
        before = omega (arith, ints);
        last = λ other inside alike less. omega (arith, ints);
      }

  -- the cells after a cell: those of the object's rows, where the cell is that of the last row before
  cells_along-values : IsAscending rows → (origin : ℤ) (a n : ℕ) (row : Row) →
      IsLast rows object (origin +ℤ pos a) row →
      cells_along row.cell (map (λ n. value_at rows object (origin +ℤ pos n)) (range_with_len a n))
      ≡ map (λ n. cell_at rows object (origin +ℤ pos n)) (range_with_len a n)
  unfolding cells_along value_at
  cells_along-values up origin a zero row is = refl
  cells_along-values up origin a (suc n) row is =
      let instant : ℤ = origin +ℤ pos a in
      let next : instant +ℤ pos 1 ≡ origin +ℤ pos (a + 1) = omega (arith, ints) in
      let last = last_before-last up instant row is in
      elim (find_cases (is_row_of object instant) rows) [
        | inl none ↦
            let later = rw next at (IsLast-absent instant row is none.0) in
            let rest = cells_along-values up origin (a + 1) n row later in
            rw (last, none.1) (ap (λ cells. None ∷ cells) rest)
        | inr found ↦
            let there : Row = found.0 in
            let later = rw next at (IsLast-present instant there found.1 found.2) in
            let to = moved-code_of row.cell there.cell in
            let rest = cells_along-values up origin (a + 1) n there later in
            rw (last, found.3, to) (ap (λ cells. Some there.cell ∷ cells) rest)
      ]

-- the anchors of blocks are rows
pub Contains-block_anchors : (chart : ChartView) (anchor : Row) → Contains (block_anchors chart) anchor →
    Contains chart.rows anchor
unfolding block_anchors anchors_of
Contains-block_anchors chart anchor among =
    let numbers : List ℕ = range_with_len 0 (period_count chart.rows chart.period) in
    let part = member_of_flat_map (anchors_in chart) numbers anchor among in
    let all = (member_of_filter _ _ anchor part.2).0 in
    (member_of_filter (is_anchor (first_of chart.rows) chart.period chart.rows) chart.rows anchor all).0

-- after a row's values an object is where its rows are
pub cells_along-values_after : (chart : ChartView) → IsChart chart → (row : Row) → Contains chart.rows row →
    cells_along row.cell (values_after chart row)
    ≡ map (λ n. cell_at chart.rows row.object (row.instant +ℤ pos n))
    (range_with_len 1 (log_length (first_of chart.rows) (span_of chart.rows) chart.period row))
cells_along-values_after chart is row among =
    cells_along-values chart.rows row.object is.ascending row.instant 1
    (log_length (first_of chart.rows) (span_of chart.rows) chart.period row) row
    (IsLast-present chart.rows row.object row.instant row among (passes_at row.object row.instant row refl refl))

-- and so after those of an anchor
pub cells-after : (chart : ChartView) → IsChart chart → (anchor : Row) → Contains (block_anchors chart) anchor →
    cells_along anchor.cell (values_after chart anchor)
    ≡ map (λ n. cell_at chart.rows anchor.object (anchor.instant +ℤ pos n))
    (range_with_len 1 (log_length (first_of chart.rows) (span_of chart.rows) chart.period anchor))
cells-after chart is anchor among = cells_along-values_after chart is anchor (Contains-block_anchors chart anchor among)

module _ (rows : List Row) (up : IsAscending rows) where
  -- there is one row of an object and an instant
  pub row-only : (a b : Row) → Contains rows a → Contains rows b → a.object ≡ b.object → a.instant ≡ b.instant → a ≡ b
  row-only a b in_a in_b same at =
      let place : place_of a ≡ place_of b =
      ap (λ object. (object, a.instant)) same ∙ ap (λ instant. (b.object, instant)) at in
      let alike : find (eq_by_cmp row_order a) rows ≡ find (eq_by_cmp row_order b) rows =
      ap (λ p. find (λ row. is_eq (place_order p (place_of row))) rows) place in
      let finds_a = find-member row_order_total rows a up in_a in
      let finds_b = find-member row_order_total rows b up in_b in
      cc

  -- what passes the test for a place is the row there
  pub filter-place : (object : ℕ) (instant : ℤ) (row : Row) → Contains rows row →
      is_row_of object instant row ≡ true → filter (is_row_of object instant) rows ≡ row ∷ []
  unfolding IsStrictlySortedBy
  filter-place object instant row among passes =
      let test = is_row_of object instant in
      let place = place_from_test object instant row passes in
      let sorted = IsStrictlySortedBy-filter row_order test rows up in
      same_from_members row_order_total (filter test rows) (row ∷ []) sorted (tt, tt)
      (λ other inside.
      let from = member_of_filter test rows other inside in
      let there = place_from_test object instant other from.1 in
      let is : row ≡ other = row-only row other among from.0 (place.0 ∙ sym there.0) (place.1 ∙ sym there.1) in
      subst (λ one. Contains (one ∷ []) other) (sym is) (first_member other []))
      (λ other inside. elim (member_cases other row [] inside) [
        | inl is ↦ Contains-filter test rows other (rw (sym is) passes) (subst (Contains rows) is among)
        | inr later ↦ no_member other later
      ])

  -- the rows of an object from so many instants after an origin on
  abbrev pub rows_from : ℕ → ℤ → ℕ → ℕ → List Row
  rows_from object origin a n = flat_map (λ k. filter (is_row_of object (origin +ℤ pos k)) rows) (range_with_len a n)

  -- stops at the object's cells are these rows
  pub map-stops_from : (object : ℕ) (origin : ℤ) (a n : ℕ) →
      map (row_of object)
      (stops_from (origin +ℤ pos a) (map (λ k. cell_at rows object (origin +ℤ pos k)) (range_with_len a n)))
      ≡ rows_from object origin a n
  unfolding stops_from
  map-stops_from object origin a zero = refl
  map-stops_from object origin a (suc n) =
      let instant : ℤ = origin +ℤ pos a in
      let next : instant +ℤ pos 1 ≡ origin +ℤ pos (a + 1) = omega (arith, ints) in
      let rest = rw (sym next) at (map-stops_from object origin (a + 1) n) in
      elim (find_cases (is_row_of object instant) rows) [
        | inl none ↦ rw (none.1, filter-none (is_row_of object instant) rows none.0) rest
        | inr found ↦
            let row : Row = found.0 in
            let place = place_from_test object instant row found.2 in
            let is : row_of object (stop_at instant row.cell) ≡ row = rw (sym place.0, sym place.1) refl in
            rw (found.3, filter-place object instant row found.1 found.2)
            (ap (λ later. row_of object (stop_at instant row.cell) ∷ later) rest
            ∙ ap (λ one. one ∷ rows_from object origin (a + 1) n) is)
      ]

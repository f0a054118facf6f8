-- The rows of a chart are those of its blocks, by object, then period: the anchor of each, and a row for each later
-- instant of the period at which there is one.
use Rattle.std.proofs.Common.{◌≡◌, ◌⊎◌, ℕ, suc, ◌+◌, ◌*◌, ◌/◌, ◌%◌, ◌<◌, ◌≤◌, Bool, true, false, List, [], ◌∷◌, ◌++◌, map, filter, get_or, Option, eq-eqb, refl, sym, ◌∙◌, ap, arith, inl, inr, subst}
use Rattle.std.specs.Prelude.{◌==◌, pos, ◌+ℤ◌, Some, None, ℤ, ◌-ℤ◌, ◌≤ℤ◌, unsigned_abs, ◌&&◌, not}
use Rattle.std.specs.List.{Contains, range_with_len, flat_map}
use Rattle.std.specs.List.Sorted.{IsNonDecreasingBy}
use Rattle.std.specs.Cmp.{both_ways}
use Rattle.std.proofs.lemmas.Bool.{and_from, and_parts}
use Rattle.std.proofs.lemmas.Bool.Decides.{nat_tests}
use Rattle.std.proofs.lemmas.Int.{ints}
use Rattle.std.proofs.lemmas.List.Elements.{All-contains, Contains-get_or, All-filter}
use Rattle.std.proofs.lemmas.List.Kept.{IsStrictlySortedBy-filter}
use Rattle.std.proofs.lemmas.List.Sorted.{IsNonDecreasingBy-from_all_adjacent}
use Rattle.std.proofs.lemmas.Nat.{div-add-mod', div_below, le-div}
use Rattle.list_laws.proofs.FilterLemmas.{filter_and}
use Rattle.list_laws.proofs.KeyedLemmas.{filter_alike, flat_map_alike, member_of_range}
use Rattle.list_laws.proofs.MemberLemmas.{Contains-filter, find_cases, first_member, list_any-none, member_cases, member_of_filter}
use Rattle.list_laws.proofs.AscendingLemmas.{first_below}
use Rattle.list_laws.proofs.KeyRangeLemmas.{by_key-sorted, of_key}
use Rattle.list_laws.proofs.FlatLemmas.{flat_map_agree}
use Rattle.list_laws.proofs.MapLemmas.{map-flat_map}
use Rattle.track_types.specs.Chart.{ChartView, IsChart}
use Rattle.track_types.specs.declared.row.Row.{Row}
use Rattle.track_types.specs.declared.stop.Stop.{Stop}
use Rattle.rule_store.specs.Cells.{cells_along}
use Rattle.rule_store.specs.Log.{stop_at, stops_from}
use Rattle.movement_log.specs.Logs.{anchors_in, values_after}
use Rattle.track_types.specs.ByFilter.{cell_at}
use Rattle.track_types.specs.Quantities.{anchors_of, elapsed, first_of, is_anchor, is_same_block, log_length, period_of, span_of, objects_of, period_count}
use Rattle.track_types.specs.Row.{IsAscending, is_row_of, row_order}
use Rattle.track_types.specs.declared.cell.Cell.{Cell}
use Rattle.track_types.proofs.QuantityLemmas.{elapsed-span, first_of-below}
use Rattle.snapshots.specs.Parts.{row_of, numbers_in}
use Rattle.movement_log.proofs.AnchorLemmas.{is_before, not_before, same_parts, period_mono}
use Rattle.movement_log.proofs.RowLemmas.{instant_lt, row_of as passes_at}
use Rattle.movement_log.proofs.PeriodLemmas.{rows_below}
use Rattle.chart_parts.specs.Header.{frame_of}
use Rattle.chart_parts.proofs.PresenceLemmas.{IsAnchorIn-member, anchor_of, IsAnchorIn, none_earlier}
use Rattle.chart_parts.proofs.CellLemmas.{cells_along-values_after, place_from_test, filter-place, map-stops_from, rows_from}
use Rattle.chart_parts.proofs.ObjectLemmas.{keyed-objects_of}
use Rattle.std.proofs.lemmas.Map.Keys.{Less-from_sorted}

-- the stops of an anchor's block: the anchor, and those that its values lead to
unfoldable pub anchor_stops : ChartView → Row → List Stop
anchor_stops chart anchor = stop_at anchor.instant anchor.cell
    ∷ stops_from (anchor.instant +ℤ pos 1) (cells_along anchor.cell (values_after chart anchor))

-- the stops of a block, if there is one
unfoldable pub stops_with : ChartView → Option Row → List Stop
stops_with chart None = []
stops_with chart (Some anchor) = anchor_stops chart anchor

-- the bounds of a number by its quotient, and its quotient by these bounds
quotient_bounds : (n d q : ℕ) → 0 < d → n / d ≡ q → (q * d ≤ n) × (n < q * d + d)
quotient_bounds n d q some same =
    let whole : q * d + n % d ≡ n = rw same at (div-add-mod' n d) in
    let rest : n % d < d = omega arith in
    (omega arith, omega arith)

quotient_from : (n d q : ℕ) → 0 < d → q * d ≤ n → n < q * d + d → n / d ≡ q
quotient_from n d q some low high =
    let next : (q + 1) * d ≡ q * d + d = grind arith in
    let up_to = le-div q n d some low in
    let below = div_below n d (q + 1) some (omega arith) in
    omega arith

-- the period of a row
abbrev pub number_of : ChartView → Row → ℕ
number_of chart row = period_of (first_of chart.rows) chart.period row

-- whether a row is of an object and in a period
abbrev pub is_of_block : ChartView → ℕ → ℕ → Row → Bool
is_of_block chart object number row = (number_of chart row == number) && (row.object == object)

-- the rows of an object in a period
abbrev pub block_rows : ChartView → ℕ → ℕ → List Row
block_rows chart object number = filter (is_of_block chart object number) chart.rows

-- a row is the anchor of an object's block in a period
record IsAnchorOf (chart : ChartView) (is : IsChart chart) (object number : ℕ) (row : Row) : Type 0 where
  anchor : IsAnchorIn chart is number row
  same : row.object ≡ object

module _ (chart : ChartView) (is : IsChart chart) (object number : ℕ) where
  abbrev begin : ℤ
  begin = first_of chart.rows

  abbrev test : Row → Bool
  test = is_of_block chart object number

  abbrev block : List Row
  block = block_rows chart object number

  block-ascends : IsAscending block
  block-ascends = IsStrictlySortedBy-filter row_order test chart.rows is.ascending

  block_parts : (row : Row) → Contains block row →
      Contains chart.rows row × (number_of chart row ≡ number) × (row.object ≡ object)
  block_parts row inside =
      let from = member_of_filter test chart.rows row inside in
      let parts = and_parts (number_of chart row == number) (row.object == object) from.1 in
      (from.0, (grind (arith, nat_tests, parts.0)), (grind (arith, nat_tests, parts.1)))

  test_from_parts : (row : Row) → number_of chart row ≡ number → row.object ≡ object → test row ≡ true
  test_from_parts row period same =
      and_from _ _ (eq-eqb (number_of chart row) number period) (eq-eqb row.object object same)

  -- no row of a block is before its anchor
  none_before : (anchor : Row) → IsAnchorOf chart is object number anchor → (row : Row) → Contains block row →
      anchor.instant ≤ℤ row.instant
  none_before anchor its row inside =
      let parts = block_parts row inside in
      none_earlier chart is number anchor row its.anchor parts.0 (parts.2 ∙ sym its.same) parts.1

  -- the first row of a block is its anchor
  first_is_anchor : (row : Row) (rest : List Row) → block ≡ row ∷ rest → IsAnchorOf chart is object number row
  first_is_anchor row rest are =
      let parts = block_parts row (subst (λ rows. Contains rows row) (sym are) (first_member row rest)) in
      let sorted : IsAscending (row ∷ rest) = subst IsAscending are block-ascends in
      let late : (other : Row) → Contains chart.rows other → is_same_block begin chart.period other row ≡ true →
      row.instant ≤ℤ other.instant = λ other among same.
      let alike = same_parts begin chart.period other row same in
      let passes = test_from_parts other (alike.1 ∙ parts.1) (alike.0 ∙ parts.2) in
      let there : Contains (row ∷ rest) other =
      subst (λ rows. Contains rows other) are (Contains-filter test chart.rows other passes among) in
      elim (member_cases other row rest there) [
        | inl one ↦ let at = ap (λ r. r.instant) one in omega (arith, ints)
        | inr later ↦
            let order = first_below row_order row other rest sorted later in
            let less = instant_lt row other order (sym alike.0) in
            omega (arith, ints)
      ] in
      let first : is_anchor begin chart.period chart.rows row ≡ true =
      ap not (list_any-none (is_before begin chart.period row) chart.rows
      (λ other among. not_before begin chart.period row other (late other among))) in
      record { anchor = record { among = parts.0; first = first; period = parts.1 }; same = parts.2 }

  -- a block has no row, or an anchor
  block_cases : (rows : List Row) → block ≡ rows → (block ≡ []) ⊎ ((row : Row) × IsAnchorOf chart is object number row)
  block_cases [] are = inl are
  block_cases (row ∷ rest) are = inr (row, first_is_anchor row rest are)

  module _ (anchor : Row) (its : IsAnchorOf chart is object number anchor) where
    -- how many instants a row is after the anchor
    abbrev after : Row → ℕ
    after row = unsigned_abs (row.instant -ℤ anchor.instant)

    abbrev len : ℕ
    len = log_length begin (span_of chart.rows) chart.period anchor

    elapsed-after : (row : Row) → anchor.instant ≤ℤ row.instant → elapsed begin row ≡ elapsed begin anchor + after row
    elapsed-after row later =
        let begins : begin ≤ℤ anchor.instant =
        All-contains (λ other. begin ≤ℤ other.instant) chart.rows anchor (first_of-below chart.rows) its.anchor.among in
        omega (arith, ints)

    -- how many instants come before the next period
    period-ends : (number_of chart anchor + 1) * chart.period ≡ number * chart.period + chart.period
    period-ends = ap (λ n. (n + 1) * chart.period) its.anchor.period ∙ grind arith

    -- a row of the block is the anchor, or among the instants of the log
    after-short : (row : Row) → Contains block row → after row < suc len
    after-short row inside =
        let parts = block_parts row inside in
        let sum = elapsed-after row (none_before anchor its row inside) in
        let span : ℕ = span_of chart.rows in
        let short : elapsed begin row < span =
        All-contains (λ other. elapsed begin other < span) chart.rows row (elapsed-span chart.rows) parts.0 in
        let bounds = quotient_bounds (elapsed begin row) chart.period number is.period.some parts.1 in
        omega (arith, bounds.1, period-ends)

    block-rise : IsNonDecreasingBy after block
    block-rise = IsNonDecreasingBy-from_all_adjacent after block (λ k d within.
        let one : Row = get_or block k d in
        let other : Row = get_or block (k + 1) d in
        let in_one = Contains-get_or block k d (omega arith) in
        let alike = (block_parts one in_one).2 ∙ sym (block_parts other (Contains-get_or block (k + 1) d within)).2 in
        let order = Less-from_sorted row_order block k (k + 1) d block-ascends (omega arith) within in
        let late = none_before anchor its one in_one in
        let more = instant_lt one other order alike in
        omega (arith, ints))

    -- the block's row so many instants after the anchor is the object's row at that instant
    test-after : (n : ℕ) → n < suc len → (row : Row) → Contains chart.rows row →
        ((after row == n) && test row) ≡ is_row_of object (anchor.instant +ℤ pos n) row
    test-after n short row among = both_ways _ _
        (λ passes.
        let both = and_parts (after row == n) (test row) passes in
        let far : after row ≡ n = grind (arith, nat_tests, both.0) in
        let inside = Contains-filter test chart.rows row both.1 among in
        let later = none_before anchor its row inside in
        passes_at object (anchor.instant +ℤ pos n) row (block_parts row inside).2 (omega (arith, ints)))
        (λ passes.
        let place = place_from_test object (anchor.instant +ℤ pos n) row passes in
        let at : row.instant ≡ anchor.instant +ℤ pos n = place.1 in
        let far : after row ≡ n = omega (arith, ints) in
        let sum = elapsed-after row (omega (arith, ints)) in
        let bounds = quotient_bounds (elapsed begin anchor) chart.period number is.period.some its.anchor.period in
        let period = quotient_from (elapsed begin row) chart.period number is.period.some
        (omega (arith, bounds.0)) (omega (arith, bounds.1, period-ends)) in
        and_from _ _ (eq-eqb (after row) n far) (test_from_parts row period place.0))

    -- the rows of the block are those of the object, instant by instant
    block-by_instant : block ≡ rows_from chart.rows is.ascending object anchor.instant 0 (suc len)
    block-by_instant =
        let instants : List ℕ = range_with_len 0 (suc len) in
        sym (by_key-sorted after (suc len) block block-rise
        (λ k d within. after-short (get_or block k d) (Contains-get_or block k d within)))
        ∙ flat_map_alike (λ n. filter (of_key after n) block)
        (λ n. filter (is_row_of object (anchor.instant +ℤ pos n)) chart.rows) instants
        (λ n inside.
        let bounds = member_of_range 0 (suc len) n inside in
        sym (filter_and (of_key after n) test chart.rows)
        ∙ filter_alike _ _ chart.rows (test-after n (omega (arith, bounds.1))))

    -- the rows of a block are its anchor's stops
    block-anchored : block ≡ map (row_of object) (anchor_stops chart anchor)
    unfolding anchor_stops
    block-anchored =
        let later : List Row = rows_from chart.rows is.ascending object anchor.instant 1 len in
        let origin : anchor.instant +ℤ pos 0 ≡ anchor.instant = omega (arith, ints) in
        let here : is_row_of object (anchor.instant +ℤ pos 0) anchor ≡ true =
        passes_at object _ anchor its.same (sym origin) in
        let one : anchor ≡ row_of object (stop_at anchor.instant anchor.cell) = rw (sym its.same) refl in
        let along : List (Option Cell) = cells_along anchor.cell (values_after chart anchor) in
        let cells : along ≡ map (λ n. cell_at chart.rows object (anchor.instant +ℤ pos n)) (range_with_len 1 len) =
        cells_along-values_after chart is anchor its.anchor.among
        ∙ ap (λ o. map (λ n. cell_at chart.rows o (anchor.instant +ℤ pos n)) (range_with_len 1 len)) its.same in
        let stops : map (row_of object) (stops_from (anchor.instant +ℤ pos 1) along) ≡ later =
        ap (λ c. map (row_of object) (stops_from (anchor.instant +ℤ pos 1) c)) cells
        ∙ map-stops_from chart.rows is.ascending object anchor.instant 1 len in
        block-by_instant
        ∙ ap (λ rows. rows ++ later) (filter-place chart.rows is.ascending object _ anchor its.anchor.among here)
        ∙ ap (λ row. row ∷ later) one
        ∙ ap (λ rows. row_of object (stop_at anchor.instant anchor.cell) ∷ rows) (sym stops)

  -- an anchor of the period is one of the chart
  abbrev anchors : List Row
  anchors = anchors_of begin chart.period chart.rows

  -- the rows of an object in a period are those of its block there
  pub block_rows-stops_with :
      block_rows chart object number ≡ map (row_of object) (stops_with chart (anchor_of chart number object))
  unfolding anchor_of anchors_of stops_with
  block_rows-stops_with = elim (find_cases (λ anchor. anchor.object == object) (anchors_in chart number)) [
    | inl none ↦ rw none.1 (elim (block_cases block refl) [
      | inl empty ↦ empty
      | inr first ↦
          let row : Row = first.0 in
          let its : IsAnchorOf chart is object number row = first.1 in
          let inside : Contains (anchors_in chart number) row =
          Contains-filter (λ anchor. number_of chart anchor == number) anchors row
          (eq-eqb (number_of chart row) number its.anchor.period)
          (Contains-filter (is_anchor begin chart.period chart.rows) chart.rows row its.anchor.first its.anchor.among) in
          let passes : (row.object == object) ≡ true = eq-eqb row.object object its.same in
          let fails : (row.object == object) ≡ false = none.0 row inside in
          absurd (cc)
    ])
    | inr found ↦
        let row : Row = found.0 in
        let test : (row.object == object) ≡ true = found.2 in
        let its : IsAnchorOf chart is object number row =
        record { anchor = IsAnchorIn-member chart is number row found.1; same = grind (arith, nat_tests) } in
        rw found.3 (block-anchored row its)
  ]

-- the rows of an object
abbrev object_rows : ChartView → ℕ → List Row
object_rows chart object = filter (λ row. row.object == object) chart.rows

-- the rows of an object's blocks
abbrev pub track_of : ChartView → ℕ → List Row
track_of chart object =
    map (row_of object)
    (flat_map (λ number. stops_with chart (anchor_of chart number object)) (numbers_in (frame_of chart)))

module _ (chart : ChartView) (is : IsChart chart) (object : ℕ) where
  abbrev rows : List Row
  rows = object_rows chart object

  -- an object's row is one of the chart's
  row_among : (row : Row) → Contains rows row → Contains chart.rows row × (row.object ≡ object)
  row_among row inside =
      let from = member_of_filter (λ other. other.object == object) chart.rows row inside in
      (from.0, (grind (arith, nat_tests, from.1)))

  -- the periods of an object's rows do not fall
  periods-rise : IsNonDecreasingBy (number_of chart) rows
  periods-rise = IsNonDecreasingBy-from_all_adjacent (number_of chart) rows (λ k d within.
      let first : ℤ = first_of chart.rows in
      let one : Row = get_or rows k d in
      let other : Row = get_or rows (k + 1) d in
      let from_one = row_among one (Contains-get_or rows k d (omega arith)) in
      let alike = from_one.1 ∙ sym (row_among other (Contains-get_or rows (k + 1) d within)).1 in
      let begins = All-contains (λ row. first ≤ℤ row.instant) chart.rows one (first_of-below chart.rows) from_one.0 in
      let sorted = IsStrictlySortedBy-filter row_order (λ row. row.object == object) chart.rows is.ascending in
      let more = instant_lt one other (Less-from_sorted row_order rows k (k + 1) d sorted (omega arith) within) alike in
      period_mono first chart.period one other is.period.some begins (omega (arith, ints)))

  -- the rows of an object are those of its blocks
  track_of-rows : track_of chart object ≡ rows
  unfolding frame_of
  track_of-rows =
      let some = is.period.some in
      let periods : ℕ = period_count chart.rows chart.period in
      let numbers : List ℕ = range_with_len 0 periods in
      let stops : ℕ → List Stop = λ number. stops_with chart (anchor_of chart number object) in
      map-flat_map (row_of object) stops numbers
      ∙ flat_map_agree (λ number. map (row_of object) (stops number))
      (λ number. filter (of_key (number_of chart) number) rows)
      (λ number. sym (block_rows-stops_with chart is object number)
      ∙ filter_and (of_key (number_of chart) number) (λ row. row.object == object) chart.rows) numbers
      ∙ by_key-sorted (number_of chart) periods rows periods-rise (All-filter (λ row. row.object == object)
      (λ row. number_of chart row < periods) chart.rows (rows_below chart some))

-- the rows of a chart are those of its blocks, by object, then period
pub rows-tracks : (chart : ChartView) → IsChart chart → flat_map (track_of chart) (objects_of chart.rows) ≡ chart.rows
rows-tracks chart is =
    flat_map_agree (track_of chart) (object_rows chart) (track_of-rows chart is) (objects_of chart.rows)
    ∙ keyed-objects_of chart.rows is.ascending

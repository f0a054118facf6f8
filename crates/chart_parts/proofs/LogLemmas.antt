-- The logs of a chart: where they stand beside their anchors and among all symbols, and that each is sound.
use Rattle.std.proofs.Common.{All, ◌≡◌, ℕ, ◌+◌, ◌<◌, ◌≤◌, List, [], length, filter, get_or, map, sym, ap, ◌∙◌, arith, subst, ◌++◌, take, drop, sum, refl, zero, suc, ◌-◌, ◌*◌, ◌/◌, ◌%◌, min, ◌∷◌}
use Rattle.std.specs.List.{Contains, flat_map, range_with_len, slice_range, sum_by}
use Rattle.std.specs.List.Sorted.{IsNonDecreasingBy}
use Rattle.std.specs.Prelude.{slice_index}
use Rattle.std.proofs.Math.ListN.{get_or-map as get_or-map_any}
use Rattle.std.proofs.lemmas.List.{length-map, append_assoc, get_or-map, length-append, take-map, take_all}
use Rattle.std.proofs.lemmas.List.Elements.{All-weaker, Contains-get_or}
use Rattle.std.proofs.lemmas.List.Concat.{length-flat_map}
use Rattle.std.proofs.lemmas.List.FromFn.{get_or-map-range_with_len, get_or-range_with_len, length-range_with_len}
use Rattle.std.proofs.lemmas.List.Sums.{sum-map}
use Rattle.list_laws.proofs.FlatLemmas.{flat_map-flat_map, sum_by-map}
use Rattle.list_laws.proofs.MapLemmas.{map-flat_map, filter-map}
use Rattle.list_laws.proofs.MemberLemmas.{member_of_filter}
use Rattle.list_laws.proofs.KeyRangeLemmas.{by_key, by_key-sorted, by_key-within, filter-by_key, IsNonDecreasingBy-by_key, of_key}
use Rattle.list_laws.proofs.PieceLemmas.{flat_map-parted, slice_range-middle}
use Rattle.list_laws.proofs.SumLemmas.{sum_by-agree}
use Rattle.track_types.specs.Chart.{ChartView, IsChart}
use Rattle.track_types.specs.Quantities.{anchors_of, first_of, period_count, period_of, elapsed, span_of}
use Rattle.track_types.specs.declared.row.Row.{Row}
use Rattle.movement_log.specs.Blocks.{no_row, row_at}
use Rattle.movement_log.specs.Logs.{anchors_in, block_anchors, values_after}
use Rattle.track_types.specs.Frame.{periods_of}
use Rattle.snapshots.specs.Parts.{no_period, period_at, start_in, symbols_of, log_in, rules_in}
use Rattle.track_types.specs.declared.cell.Cell.{Cell}
use Rattle.rule_store.specs.Cells.{displacement_of, moved}
use Rattle.rule_store.specs.Entry.{duration_of, entry_of}
use Rattle.rule_store.specs.Expansion.{values_of}
use Rattle.rule_store.specs.Log.{log_values}
use Rattle.rule_store.specs.View.{RulesView}
use Rattle.rule_store.proofs.ExpansionLemmas.{length-values_of}
use Rattle.movement_log.proofs.CutLemmas.{length-values_after}
use Rattle.log_bounds.specs.Bounds.{cell_after, cell_before, duration_of_log}
use Rattle.snapshots.specs.JoinFlaws.{instants_after}
use Rattle.snapshots.specs.SoundParts.{IsSoundLog}
use Rattle.snapshots.specs.declared.anchored.Anchored.{Anchored}
use Rattle.chart_parts.specs.PartsOf.{grammar_of, logged_anchors, logs_in, compressed_parts_of, period_of_chart}
use Rattle.chart_parts.specs.Header.{frame_of}
use Rattle.chart_parts.proofs.PresenceLemmas.{IsAnchorIn-member}
use Rattle.chart_parts.proofs.GrammarLemmas.{firsts-logged_anchors, seconds-logged_anchors, log-values, logged_anchor}
use Rattle.chart_parts.proofs.AlongLemmas.{IsAlong, IsAlong-back, IsAlong-front, IsInFrame, IsInGridAt-along, IsAlong-block}

module _ (chart : ChartView) where
  -- how many periods there are
  abbrev count : ℕ
  count = period_count chart.rows chart.period

  abbrev pub row_period : Row → ℕ
  row_period row = period_of (first_of chart.rows) chart.period row

  abbrev log_period : Row × List ℕ → ℕ
  log_period block = row_period block.0

  abbrev rows_by_object : List Row
  rows_by_object = anchors_of (first_of chart.rows) chart.period chart.rows

  anchors-rise : IsNonDecreasingBy row_period (block_anchors chart)
  unfolding block_anchors
  anchors-rise = IsNonDecreasingBy-by_key row_period 0 count rows_by_object

  anchors-below : All (λ row. row_period row < count) (block_anchors chart)
  unfolding block_anchors
  anchors-below =
      All-weaker (λ row. (0 ≤ row_period row) × (row_period row < 0 + count)) (λ row. row_period row < count)
      (λ row is. omega (arith, is.1)) (by_key row_period 0 count rows_by_object)
      (by_key-within row_period 0 count rows_by_object)

  first_at : (i : ℕ) (d : Row × List ℕ) →
      get_or (block_anchors chart) i d.0 ≡ (get_or (logged_anchors chart) i d).0
  first_at i d =
      ap (λ rows. get_or rows i d.0) (sym (firsts-logged_anchors chart))
      ∙ get_or-map_any (λ (block : Row × List ℕ). block.0) (logged_anchors chart) i d

  length-logged_anchors : length (logged_anchors chart) ≡ length (block_anchors chart)
  length-logged_anchors =
      sym (length-map (logged_anchors chart) (λ (block : Row × List ℕ). block.0)) ∙ ap length (firsts-logged_anchors chart)

  -- the logs are by period
  by_key-logged_anchors : by_key log_period 0 count (logged_anchors chart) ≡ logged_anchors chart
  by_key-logged_anchors =
      by_key-sorted log_period count (logged_anchors chart)
      (λ i j d before within.
      let up = anchors-rise i j d.0 before (omega (arith, length-logged_anchors)) in
      rw (first_at i d, first_at j d) at up)
      (λ i d within.
      let low = anchors-below i d.0 (omega (arith, length-logged_anchors)) in
      rw (first_at i d) at low)

  -- the logs of all blocks are those of each period
  pub blocks-by_period : (grammar_of chart).blocks ≡ flat_map (logs_in chart) (range_with_len 0 count)
  unfolding logs_in
  blocks-by_period =
      sym (seconds-logged_anchors chart)
      ∙ ap (map (λ (block : Row × List ℕ). block.1)) (sym by_key-logged_anchors)
      ∙ map-flat_map (λ (block : Row × List ℕ). block.1) (λ k. filter (of_key log_period k) (logged_anchors chart))
      (range_with_len 0 count)

  -- the symbols of a period's logs
  abbrev pub symbols_in : ℕ → List ℕ
  symbols_in number = flat_map (λ log. log) (logs_in chart number)

  -- the symbols of all logs are those of each period
  pub symbols-by_period :
      flat_map (λ log. log) (grammar_of chart).blocks ≡ flat_map symbols_in (range_with_len 0 count)
  symbols-by_period =
      ap (flat_map (λ log. log)) blocks-by_period
      ∙ flat_map-flat_map (λ log. log) (logs_in chart) (range_with_len 0 count)

  module _ (number : ℕ) (below : number < count) where
    abbrev logged : List (Row × List ℕ)
    logged = filter (of_key log_period number) (logged_anchors chart)

    -- the anchors of a period are those of its logs
    pub firsts-logged : map (λ (block : Row × List ℕ). block.0) logged ≡ anchors_in chart number
    unfolding block_anchors
    firsts-logged =
        sym (filter-map (of_key row_period number) (λ (block : Row × List ℕ). block.0) (logged_anchors chart))
        ∙ ap (filter (of_key row_period number)) (firsts-logged_anchors chart)
        ∙ filter-by_key row_period number 0 count rows_by_object (omega arith) (omega arith)

    -- there is a log for each anchor of a period
    pub length-logs_in : length (logs_in chart number) ≡ length (anchors_in chart number)
    unfolding logs_in
    length-logs_in =
        length-map logged (λ (block : Row × List ℕ). block.1)
        ∙ sym (length-map logged (λ (block : Row × List ℕ). block.0)) ∙ ap length firsts-logged

    -- the log of a place is that of the anchor there
    pub logged-at : (place : ℕ) → place < length (anchors_in chart number) →
        Contains (logged_anchors chart) (row_at (anchors_in chart number) place, get_or (logs_in chart number) place [])
    unfolding logs_in
    logged-at place within =
        let block : Row × List ℕ = get_or logged place (no_row, []) in
        let long : length logged ≡ length (anchors_in chart number) =
        sym (length-map logged (λ (block : Row × List ℕ). block.0)) ∙ ap length firsts-logged in
        let inside : Contains (logged_anchors chart) block =
        (member_of_filter (of_key log_period number) (logged_anchors chart) block
        (Contains-get_or logged place (no_row, []) (omega arith))).0 in
        let anchor : block.0 ≡ row_at (anchors_in chart number) place =
        sym (get_or-map_any (λ (block : Row × List ℕ). block.0) logged place (no_row, []))
        ∙ ap (λ rows. row_at rows place) firsts-logged in
        let log : block.1 ≡ get_or (logs_in chart number) place [] =
        sym (get_or-map_any (λ (block : Row × List ℕ). block.1) logged place (no_row, [])) in
        subst (λ symbols. Contains (logged_anchors chart) (row_at (anchors_in chart number) place, symbols)) log
        (subst (λ row. Contains (logged_anchors chart) (row, block.1)) anchor inside)

module _ (chart : ChartView) where
  -- the header has as many periods as the chart
  pub periods_of-frame_of : periods_of (frame_of chart) ≡ period_count chart.rows chart.period
  unfolding frame_of
  periods_of-frame_of = refl

  -- the parts of a period are those of the chart's
  pub period_at-compressed_parts_of : (number : ℕ) → number < periods_of (frame_of chart) →
      period_at (compressed_parts_of chart).periods number ≡ period_of_chart chart number
  unfolding compressed_parts_of
  period_at-compressed_parts_of number below =
      get_or-map-range_with_len (period_of_chart chart) 0 (periods_of (frame_of chart)) number number no_period below
      (omega arith)

  abbrev numbers : List ℕ
  numbers = range_with_len 0 (period_count chart.rows chart.period)

  symbols_of-period : (number : ℕ) → symbols_of (period_of_chart chart number) ≡ length (symbols_in chart number)
  unfolding period_of_chart
  symbols_of-period number =
      sum-map length (logs_in chart number) ∙ sym (length-flat_map (λ log. log) (logs_in chart number))

  -- the logs of a period begin after the symbols of those before
  start_in-length : (number : ℕ) →
      start_in (compressed_parts_of chart) number ≡ length (flat_map (symbols_in chart) (take number numbers))
  unfolding start_in compressed_parts_of frame_of
  start_in-length number =
      ap (sum_by symbols_of) (take-map (period_of_chart chart) number numbers)
      ∙ sum_by-map symbols_of (period_of_chart chart) (take number numbers)
      ∙ sum_by-agree (λ k. symbols_of (period_of_chart chart k)) (λ k. length (symbols_in chart k)) symbols_of-period
      (take number numbers)
      ∙ sym (length-flat_map (symbols_in chart) (take number numbers))

  symbols-compressed_parts_of : (compressed_parts_of chart).symbols ≡ flat_map (symbols_in chart) numbers
  unfolding compressed_parts_of
  symbols-compressed_parts_of = symbols-by_period chart

  -- the logs of all periods have all symbols
  pub total-compressed_parts_of : start_in (compressed_parts_of chart) (periods_of (frame_of chart)) ≡ length (compressed_parts_of chart).symbols
  total-compressed_parts_of =
      let long = length-range_with_len 0 (period_count chart.rows chart.period) in
      start_in-length (periods_of (frame_of chart))
      ∙ ap (λ ks. length (flat_map (symbols_in chart) ks))
      (take_all (periods_of (frame_of chart)) numbers (omega (arith, periods_of-frame_of)))
      ∙ ap length (sym symbols-compressed_parts_of)

  module _ (number : ℕ) (below : number < periods_of (frame_of chart)) (place : ℕ)
      (within : place < length (anchors_in chart number)) where
    abbrev logs : List (List ℕ)
    logs = logs_in chart number

    abbrev log : List ℕ
    log = get_or logs place []

    abbrev lengths : List ℕ
    lengths = map length logs

    abbrev from : ℕ
    from = start_in (compressed_parts_of chart) number + sum (take place lengths)

    -- the symbols of a log stand after those of earlier periods and of earlier objects
    pub slice_range-log : slice_range (compressed_parts_of chart).symbols from (from + slice_index lengths place) ≡ log
    slice_range-log =
        let counted : number < period_count chart.rows chart.period = omega (arith, periods_of-frame_of) in
        let inside : place < length logs = omega (arith, length-logs_in chart number counted) in
        let before : List ℕ = flat_map (symbols_in chart) (take number numbers) in
        let after : List ℕ = flat_map (symbols_in chart) (drop (number + 1) numbers) in
        let front : List ℕ = flat_map (λ l. l) (take place logs) in
        let back : List ℕ = flat_map (λ l. l) (drop (place + 1) logs) in
        let its : get_or numbers number 0 ≡ number =
        get_or-range_with_len 0 (period_count chart.rows chart.period) number 0 counted ∙ omega arith in
        let parted : (compressed_parts_of chart).symbols ≡ (before ++ front) ++ (log ++ (back ++ after)) =
        symbols-compressed_parts_of
        ∙ flat_map-parted (symbols_in chart) numbers number 0
        (omega (arith, length-range_with_len 0 (period_count chart.rows chart.period)))
        ∙ ap (λ k. before ++ (symbols_in chart k ++ after)) its
        ∙ ap (λ xs. before ++ (xs ++ after)) (flat_map-parted (λ l. l) logs place [] inside)
        ∙ simp append_assoc in
        let one : slice_index lengths place ≡ length log = get_or-map length logs place [] 0 inside in
        let so_far : sum (take place lengths) ≡ length front =
        ap sum (take-map length place logs) ∙ sum-map length (take place logs)
        ∙ sym (length-flat_map (λ l. l) (take place logs)) in
        let where_from : from ≡ length (before ++ front) =
        omega (arith, start_in-length number, so_far, length-append before front) in
        ap (λ xs. slice_range xs from (from + slice_index lengths place)) parted
        ∙ ap (λ n. slice_range ((before ++ front) ++ (log ++ (back ++ after))) from (from + n)) one
        ∙ ap (λ n. slice_range ((before ++ front) ++ (log ++ (back ++ after))) n (n + length log)) where_from
        ∙ slice_range-middle (before ++ front) log (back ++ after)

-- the values of a log's symbol go on from the cell before it
pub IsAlong-place : (P : Cell → Type 0) (rules : RulesView) (start : Cell) (log : List ℕ) (place : ℕ) →
    IsAlong P start (log_values rules log) → place < length log →
    IsAlong P (cell_before rules start log place) (values_of rules (slice_index log place))
unfolding log_values cell_after
IsAlong-place P rules start [] place along within = absurd (omega arith)
IsAlong-place P rules start (symbol ∷ log) zero along within =
    IsAlong-front P start (values_of rules symbol) (log_values rules log) along
IsAlong-place P rules start (symbol ∷ log) (suc place) along within =
    IsAlong-place P rules (moved start (displacement_of (values_of rules symbol))) log place
    (IsAlong-back P start (values_of rules symbol) (log_values rules log) along) (omega arith)

-- a log lasts one instant for each of its values
pub duration_of_log-log : (rules : RulesView) (log : List ℕ) → duration_of_log rules log ≡ length (log_values rules log)
unfolding duration_of_log log_values
duration_of_log-log rules log =
    sum_by-agree (duration_of rules) (λ symbol. length (values_of rules symbol))
    (λ symbol. sym (length-values_of rules symbol)) log
    ∙ sym (length-flat_map (values_of rules) log)

-- the instants that are left after an anchor, counted from the first of all and from the first of the period
instants_left : (before period span number : ℕ) → 0 < period → before / period ≡ number →
    min ((before / period + 1) * period) span - (before + 1)
    ≡ min period (span - number * period) - 1 - before % period
instants_left before period span number some is =
    let end : (before / period + 1) * period ≡ period * (before / period) + period = grind arith in
    let begin : number * period ≡ period * (before / period) = rw (sym is) (grind arith) in
    omega (arith, end, begin)

module _ (chart : ChartView) (is : IsChart chart) (number : ℕ) (anchor : Row) (block : Anchored)
    (among : Contains (anchors_in chart number) anchor)
    (offset_is : block.offset ≡ elapsed (first_of chart.rows) anchor % chart.period)
    (cell_is : block.cell ≡ anchor.cell)
    (logged : Contains (logged_anchors chart) (anchor, log_in (compressed_parts_of chart) block)) where
  abbrev rules : RulesView
  rules = rules_in (compressed_parts_of chart)

  abbrev stored : List ℕ
  stored = log_in (compressed_parts_of chart) block

  -- from the block's cell the log's values stay in the grid
  IsAlong-log : IsAlong (IsInFrame (frame_of chart)) block.cell (log_values rules stored)
  IsAlong-log =
      subst (IsAlong (IsInFrame (frame_of chart)) block.cell) (sym (log-values chart anchor stored logged))
      (subst (λ cell. IsAlong (IsInFrame (frame_of chart)) cell (values_after chart anchor)) (sym cell_is)
      (IsAlong-block chart is anchor (logged_anchor chart anchor stored logged).0))

  -- the log lasts to the end of the period
  lasts_to_end : duration_of_log rules stored ≡ instants_after (frame_of chart) number block
  unfolding frame_of
  lasts_to_end =
      let before : ℕ = elapsed (first_of chart.rows) anchor in
      let span : ℕ = span_of chart.rows in
      duration_of_log-log rules stored ∙ ap length (log-values chart anchor stored logged)
      ∙ length-values_after chart anchor
      ∙ instants_left before chart.period span number is.period.some
      (IsAnchorIn-member chart is number anchor among).period
      ∙ ap (λ n. min chart.period (span - number * chart.period) - 1 - n) (sym offset_is)

  -- the log is sound
  pub IsSoundLog-block : IsSoundLog (frame_of chart) rules number block
  unfolding entry_of
  IsSoundLog-block = record {
    placed = λ place within.
        IsInGridAt-along (frame_of chart) (cell_before rules block.cell stored place)
        (values_of rules (slice_index stored place))
        (IsAlong-place (IsInFrame (frame_of chart)) rules block.cell stored place IsAlong-log within);
    lasts = lasts_to_end;
  }

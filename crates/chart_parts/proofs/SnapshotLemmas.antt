-- Each period of a chart's parts is a sound snapshot, and shaped: its lists are as long as the presence bits say.
use Rattle.std.proofs.Common.{All, ◌≡◌, ℕ, ◌+◌, ◌-◌, ◌*◌, ◌/◌, ◌%◌, ◌^◌, ◌<◌, ◌≤◌, List, length, map, get_or, refl, sym, ap, ◌∙◌, arith, subst, filter}
use Rattle.std.specs.Prelude.{min, slice_index, ◌==◌}
use Rattle.std.specs.List.{Contains}
use Rattle.std.proofs.Math.Nat.{div-add-mod}
use Rattle.std.proofs.lemmas.List.{length-map}
use Rattle.std.proofs.lemmas.List.Elements.{All-contains, All-contains_itself, All-map, All-weaker, All-filter, Contains-get_or}
use Rattle.std.proofs.lemmas.List.FromFn.{get_or-range_with_len, length-range_with_len}
use Rattle.track_types.specs.Chart.{ChartView, IsChart}
use Rattle.track_types.specs.Frame.{instants_in, periods_of, wide_of}
use Rattle.track_types.specs.Quantities.{elapsed, first_of, span_of, objects_of, period_count}
use Rattle.track_types.specs.declared.cell.Cell.{Cell}
use Rattle.track_types.specs.declared.frame.Frame.{Frame}
use Rattle.track_types.proofs.QuantityLemmas.{elapsed-span}
use Rattle.k2_tree.specs.Flaws.{StandsFor}
use Rattle.k2_tree.specs.Morton.{IsGrid, IsInGrid, cell_of, morton_of}
use Rattle.k2_tree.specs.Tree.{Tree, codes_of, tree_bits, tree_of, tree_with}
use Rattle.k2_tree.specs.Widths.{fan, widths_of}
use Rattle.k2_tree.specs.TreeBits.{AreCodes, morton_bits}
use Rattle.k2_tree.proofs.CellLemmas.{codes_back, tree_of-StandsFor}
use Rattle.k2_tree.proofs.MortonLemmas.{cell_of-inside, morton_of-lt}
use Rattle.snapshots.specs.View.{SnapshotView, view_with, widths_in}
use Rattle.snapshots.specs.Sound.{IsSoundPeriod}
use Rattle.snapshots.specs.Parts.{snapshot_in, start_in, numbers_in}
use Rattle.movement_log.specs.Logs.{anchors_in}
use Rattle.snapshots.proofs.SoundLemmas.{IsGrid-frame, wide_of-fits}
use Rattle.bit_rank.proofs.RankLemmas.{ones_of-le-length}
use Rattle.track_types.specs.PartsForm.{AreShort, IsShapedPeriod}
use Rattle.k2_tree.proofs.BuiltLemmas.{few_bits}
use Rattle.chart_parts.specs.Header.{frame_of}
use Rattle.chart_parts.specs.LeafOrder.{distinct_codes, leaf_codes, leaf_order, ends_of}
use Rattle.chart_parts.specs.PartsOf.{anchor_codes, compressed_parts_of, period_of_chart, grammar_of, is_present, logs_in, logged_anchors}
use Rattle.chart_parts.proofs.HeaderLemmas.{IsFrame-frame_of}
use Rattle.chart_parts.proofs.LeafEndLemmas.{All-distinct_codes, Rises-distinct_codes, distinct_codes-at_rank, ends_of-last, ones_of-leaf_ends, length-ends_of}
use Rattle.chart_parts.proofs.LeafOrderLemmas.{PermutesPlaces-leaf_order, leaf_order-before, length-leaf_order, leaf_order-within, length-leaf_codes}
use Rattle.chart_parts.proofs.LogLemmas.{period_at-compressed_parts_of, length-logs_in, periods_of-frame_of, row_period}
use Rattle.chart_parts.proofs.PresenceLemmas.{IsAnchorIn-member, ones_of-present, few_anchors}
use Rattle.chart_parts.proofs.GrammarLemmas.{IsShortLog, logged_anchor, short_logs}
use Rattle.track_types.specs.declared.row.Row.{Row}

-- how many instants come before one in its period
offset_below : (before period span number : ℕ) → 0 < period → before / period ≡ number → before < span →
    before % period < min period (span - number * period)
offset_below before period span number some is within =
    let parts : period * (before / period) + before % period ≡ before = div-add-mod before period in
    let times : period * number + before % period ≡ before = rw is at parts in
    omega arith

module _ (height wide : ℕ) (base : Cell) (codes : List ℕ) (grid : IsGrid height base) (fits : 2 * wide ≤ height)
    (are : AreCodes height codes) where
  abbrev own_tree : Tree
  own_tree = tree_with height wide base (map (cell_of height base) codes)

  own_codes : codes_of own_tree ≡ codes
  own_codes = codes_back height base codes are.small

  stands_for : StandsFor height wide base (morton_bits (widths_of height wide) codes) own_tree
  unfolding tree_bits
  stands_for = record {
    high = refl;
    levels = refl;
    from = refl;
    is_tree = record {
      grid = grid;
      fits = fits;
      inside =
          All-map (IsInGrid height base) (cell_of height base) codes
          (λ k d within. cell_of-inside height base (get_or codes k d));
      codes = subst (AreCodes height) (sym own_codes) are;
    };
    same = ap (morton_bits (widths_of height wide)) own_codes;
  }

  -- the bits of numbers are those of a tree of their cells
  pub tree_of-morton_bits : tree_of height wide base (morton_bits (widths_of height wide) codes) ≡ own_tree
  tree_of-morton_bits = tree_of-StandsFor height wide base (morton_bits (widths_of height wide) codes) own_tree stands_for

  pub StandsFor-morton_bits :
      StandsFor height wide base (morton_bits (widths_of height wide) codes)
      (tree_of height wide base (morton_bits (widths_of height wide) codes))
  StandsFor-morton_bits =
      subst (StandsFor height wide base (morton_bits (widths_of height wide) codes)) (sym tree_of-morton_bits) stands_for

-- each anchor of a period has a number
pub length-anchor_codes : (chart : ChartView) (number : ℕ) →
    length (anchor_codes chart number) ≡ length (anchors_in chart number)
unfolding anchor_codes
length-anchor_codes chart number = length-map (anchors_in chart number) _

module _ (chart : ChartView) (is : IsChart chart) (number : ℕ) where
  abbrev frame : Frame
  frame = frame_of chart

  abbrev codes : List ℕ
  codes = anchor_codes chart number

  -- the snapshot of a period of the chart
  abbrev pub own_view : SnapshotView
  own_view = view_with (frame_of chart) number (length (compressed_parts_of chart).objects) (start_in (compressed_parts_of chart) number)
      (period_of_chart chart number)

  -- it is that of the chart's parts
  pub snapshot_in-compressed_parts_of : number < periods_of (frame_of chart) → snapshot_in (compressed_parts_of chart) number ≡ own_view
  unfolding compressed_parts_of
  snapshot_in-compressed_parts_of below =
      ap (view_with (frame_of chart) number (length (compressed_parts_of chart).objects) (start_in (compressed_parts_of chart) number))
      (period_at-compressed_parts_of chart number below)

  -- the numbers of a period's anchors
  pub AreCodes-distinct_codes : AreCodes frame.height (distinct_codes codes)
  unfolding anchor_codes
  AreCodes-distinct_codes = record {
    rising = Rises-distinct_codes codes;
    small =
        All-distinct_codes codes (λ code. code < fan ^ frame.height)
        (All-map (λ code. code < fan ^ frame.height) (λ anchor. morton_of frame.height frame.base anchor.cell)
        (anchors_in chart number)
        (λ k d within. morton_of-lt frame.height frame.base (get_or (anchors_in chart number) k d).cell));
  }

  -- the tree of a period has the cells of these numbers
  pub tree_in-own : tree_of frame.height (wide_of frame) frame.base (morton_bits (widths_in frame) (distinct_codes codes))
      ≡ tree_with frame.height (wide_of frame) frame.base
      (map (cell_of frame.height frame.base) (distinct_codes codes))
  tree_in-own =
      tree_of-morton_bits frame.height (wide_of frame) frame.base (distinct_codes codes)
      (IsGrid-frame frame (IsFrame-frame_of chart is)) (wide_of-fits frame) AreCodes-distinct_codes

  offsets-own : All (λ offset. offset < instants_in frame number)
      (map (λ anchor. elapsed (first_of chart.rows) anchor % chart.period) (anchors_in chart number))
  unfolding frame_of
  offsets-own =
      All-map (λ offset. offset < instants_in frame number)
      (λ anchor. elapsed (first_of chart.rows) anchor % chart.period) (anchors_in chart number)
      (All-weaker (Contains (anchors_in chart number))
      (λ anchor. elapsed (first_of chart.rows) anchor % chart.period < instants_in frame number)
      (λ anchor inside.
      let its = IsAnchorIn-member chart is number anchor inside in
      let within = All-contains (λ row. elapsed (first_of chart.rows) row < span_of chart.rows) chart.rows anchor
      (elapsed-span chart.rows) its.among in
      offset_below (elapsed (first_of chart.rows) anchor) chart.period (span_of chart.rows) number is.period.some
      its.period within)
      (anchors_in chart number) (All-contains_itself (anchors_in chart number)))

  pub IsSoundPeriod-own : IsSoundPeriod own_view
  unfolding period_of_chart
  IsSoundPeriod-own = record {
    offsets = offsets-own;
    tree =
        StandsFor-morton_bits frame.height (wide_of frame) frame.base (distinct_codes codes)
        (IsGrid-frame frame (IsFrame-frame_of chart is)) (wide_of-fits frame) AreCodes-distinct_codes;
    cells =
        ones_of-leaf_ends codes ∙ sym (length-map (distinct_codes codes) (cell_of frame.height frame.base))
        ∙ ap (λ (tree : Tree). length tree.cells) (sym tree_in-own);
    last = ends_of-last (leaf_codes codes);
    permutes = PermutesPlaces-leaf_order codes;
    order = λ p q less within same.
        let inside : q < length codes = omega (arith, length-leaf_order codes) in
        let alike : slice_index codes (slice_index (leaf_order codes) p)
        ≡ slice_index codes (slice_index (leaf_order codes) q) =
        sym (distinct_codes-at_rank codes p (omega arith)) ∙ ap (slice_index (distinct_codes codes)) same
        ∙ distinct_codes-at_rank codes q inside in
        (leaf_order-before codes p q less inside).tied alike;
  }

  -- each period of a chart's parts is sound
  pub IsSoundPeriod-period : number < periods_of (frame_of chart) → IsSoundPeriod (snapshot_in (compressed_parts_of chart) number)
  IsSoundPeriod-period below = subst IsSoundPeriod (sym (snapshot_in-compressed_parts_of below)) IsSoundPeriod-own

  module _ (below : number < periods_of (frame_of chart)) where
    abbrev objects : ℕ
    objects = length (objects_of chart.rows)

    -- there are no more different cells of anchors than objects
    pub few_distinct : length (distinct_codes codes) ≤ length (objects_of chart.rows)
    few_distinct =
        omega (
          arith,
          ones_of-leaf_ends codes,
          ones_of-le-length (ends_of (leaf_codes codes)),
          length-ends_of (leaf_codes codes),
          length-leaf_codes codes,
          length-anchor_codes chart number,
          few_anchors chart is number,
        )

    -- each offset is below the length of a period
    short_offsets : AreShort (period_of_chart chart number).offsets
    short_offsets =
        All-weaker (λ offset. offset < instants_in (frame_of chart) number) (λ offset. offset < 2 ^ 32)
        (λ offset low. let limit = (IsFrame-frame_of chart is).periods.limit in omega arith)
        (period_of_chart chart number).offsets IsSoundPeriod-own.offsets

    -- no log is long
    short_lengths : AreShort (map length (logs_in chart number))
    unfolding logs_in
    short_lengths =
        let second : Row × List ℕ → List ℕ = λ block. block.1 in
        All-map (λ n. n < 2 ^ 32) length (logs_in chart number)
        (All-map IsShortLog second (filter (λ block. row_period chart block.0 == number) (logged_anchors chart))
        (All-filter (λ block. row_period chart block.0 == number) (λ block. IsShortLog block.1) (logged_anchors chart)
        (λ k d within. All-contains IsShortLog (grammar_of chart).blocks (get_or (logged_anchors chart) k d).1
        (short_logs chart is)
        (logged_anchor chart _ _ (Contains-get_or (logged_anchors chart) k d within)).1)))

    -- the parts of a period are shaped
    pub IsShapedPeriod-own : IsShapedPeriod objects (period_of_chart chart number)
    unfolding period_of_chart
    IsShapedPeriod-own =
        let ones = ones_of-present chart is number in
        let counted : number < period_count chart.rows chart.period = omega (arith, periods_of-frame_of chart) in
        let order = length-leaf_order codes in
        record {
          presence = length-map (objects_of chart.rows) (is_present chart number);
          offsets = length-map (anchors_in chart number) _ ∙ sym ones;
          bits = few_bits (frame_of chart).height (wide_of (frame_of chart)) (distinct_codes codes)
              (IsFrame-frame_of chart is).limit (wide_of-fits (frame_of chart))
              (let few = is.objects in omega (arith, few_distinct));
          lasts = length-ends_of (leaf_codes codes) ∙ length-leaf_codes codes ∙ length-anchor_codes chart number
              ∙ sym ones;
          perm = order ∙ length-anchor_codes chart number ∙ sym ones;
          lengths = length-map (logs_in chart number) length ∙ length-logs_in chart number counted ∙ sym ones;
          short_offsets = short_offsets;
          short_perm =
              All-weaker (λ place. place < length codes) (λ place. place < 2 ^ 32)
              (λ place low. let few = is.objects in omega (arith, length-anchor_codes chart number, few_anchors chart is number))
              (leaf_order codes) (leaf_order-within codes);
          short_lengths = short_lengths;
        }

-- each period of a chart's parts is shaped
pub shaped-periods : (chart : ChartView) → IsChart chart →
    All (IsShapedPeriod (length (objects_of chart.rows))) (compressed_parts_of chart).periods
unfolding compressed_parts_of
shaped-periods chart is =
    let count : ℕ = periods_of (frame_of chart) in
    All-map (IsShapedPeriod (length (objects_of chart.rows))) (period_of_chart chart) (numbers_in (frame_of chart))
    (λ k d within.
    let long = length-range_with_len 0 count in
    let its = get_or-range_with_len 0 count k d (omega arith) in
    IsShapedPeriod-own chart is (get_or (numbers_in (frame_of chart)) k d) (omega (arith, its)))

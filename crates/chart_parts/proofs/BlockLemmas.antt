-- The blocks of a period of a chart's parts are those of its anchors, with their stops, so that the parts hold the
-- chart.
use Rattle.std.proofs.Common.{◌≡◌, ◌⊎◌, ℕ, ◌%◌, ◌<◌, Bool, true, false, List, length, map, None, Some, refl, sym, ap, ◌∙◌, arith, inl, inr, subst, All, ◌+◌, ◌*◌, ◌/◌, ℤ, pos, ◌+ℤ◌, ◌-ℤ◌}
use Rattle.std.specs.Prelude.{slice_index, slice_index_or, ◌≤ℤ◌, unsigned_abs}
use Rattle.std.specs.List.{Contains, range_with_len, flat_map}
use Rattle.std.proofs.lemmas.Bool.{cases_Bool, cases_lt}
use Rattle.std.proofs.lemmas.List.{get_or-map, get_or_past, length-map}
use Rattle.std.proofs.lemmas.List.Elements.{Contains-get_or, All-contains}
use Rattle.std.proofs.lemmas.Option.{none-some, same_Some}
use Rattle.std.proofs.Math.Nat.{div-add-mod}
use Rattle.std.proofs.lemmas.Int.{ints}
use Rattle.list_laws.proofs.SumLemmas.{All-filter_map}
use Rattle.list_laws.proofs.KeyedLemmas.{flat_map_alike, member_of_range}
use Rattle.list_laws.proofs.RangeLemmas.{flat_map-places}
use Rattle.bit_rank.specs.Bits.{rank_of}
use Rattle.object_perm.specs.Permutation.{inverse_of}
use Rattle.object_perm.proofs.InverseLemmas.{at-inverse_of}
use Rattle.object_perm.proofs.OntoLemmas.{inverse_of-within}
use Rattle.track_types.specs.Chart.{ChartView, IsChart}
use Rattle.track_types.specs.Frame.{periods_of}
use Rattle.track_types.specs.Quantities.{elapsed, first_of, objects_of, period_count}
use Rattle.track_types.specs.declared.frame.Frame.{Frame}
use Rattle.track_types.specs.declared.row.Row.{Row}
use Rattle.k2_tree.specs.Morton.{cell_of, morton_of}
use Rattle.k2_tree.proofs.MortonLemmas.{cell_of-morton_of}
use Rattle.snapshots.specs.View.{block_of, present_block, tree_in, all_blocks, SnapshotView}
use Rattle.snapshots.specs.Parts.{log_in, snapshot_in, chart_in, numbers_in, row_of, rows_in, stops_in, anchored_at, stops_in_block, stops_of}
use Rattle.snapshots.specs.declared.anchored.Anchored.{Anchored}
use Rattle.movement_log.specs.Blocks.{no_row, row_at}
use Rattle.movement_log.specs.Logs.{anchors_in}
use Rattle.track_types.proofs.QuantityLemmas.{first_of-below}
use Rattle.rule_store.specs.Log.{block_stops, stops_after}
use Rattle.chart_parts.specs.Header.{frame_of}
use Rattle.chart_parts.specs.LeafOrder.{distinct_codes, ends_of, leaf_codes, leaf_order}
use Rattle.chart_parts.specs.PartsOf.{anchor_codes, is_present, logged_anchors, compressed_parts_of, period_of_chart}
use Rattle.chart_parts.proofs.BlockRowLemmas.{stops_with, rows-tracks, track_of, anchor_stops}
use Rattle.chart_parts.proofs.HeaderLemmas.{row-in_grid, last_in-frame_of}
use Rattle.chart_parts.proofs.LeafEndLemmas.{distinct_codes-at_rank, rank_of-leaf_ends}
use Rattle.chart_parts.proofs.LeafOrderLemmas.{PermutesPlaces-leaf_order, length-leaf_order}
use Rattle.chart_parts.proofs.LogLemmas.{logged-at, periods_of-frame_of, slice_range-log}
use Rattle.chart_parts.proofs.PresenceLemmas.{IsAnchorIn-member, anchor_of, anchor_of-absent, anchor_of-present}
use Rattle.chart_parts.proofs.SnapshotLemmas.{length-anchor_codes, own_view, snapshot_in-compressed_parts_of, tree_in-own}
use Rattle.chart_parts.proofs.GrammarLemmas.{log-values}
use Rattle.track_types.specs.declared.parts.Parts.{Parts}

-- an object has this anchor in a period, and this block, which is the anchor's: it has the anchor's instant within the
-- period, the anchor's cell, and the log that stands beside the anchor
pub record HasBlock (chart : ChartView) (number i : ℕ) (anchor : Row) (block : Anchored) : Type 0 where
  pub anchored : anchor_of chart number (slice_index (objects_of chart.rows) i) ≡ Some anchor
  pub among : Contains (anchors_in chart number) anchor
  pub found : block_of (snapshot_in (compressed_parts_of chart) number) i ≡ Some block
  pub index : block.index ≡ i
  pub offset : block.offset ≡ elapsed (first_of chart.rows) anchor % chart.period
  pub cell : block.cell ≡ anchor.cell
  pub logged : Contains (logged_anchors chart) (anchor, log_in (compressed_parts_of chart) block)

-- a block is that of one of the anchors of a period, by its object's place
pub record IsAnchored (chart : ChartView) (number : ℕ) (block : Anchored) : Type 0 where
  pub within : block.index < length (objects_of chart.rows)
  pub anchor : Row
  pub has : HasBlock chart number block.index anchor block

module _ (chart : ChartView) (is : IsChart chart) (number : ℕ) (below : number < periods_of (frame_of chart)) where
  abbrev codes : List ℕ
  codes = anchor_codes chart number

  abbrev grid : Frame
  grid = frame_of chart

  code-at : (rank : ℕ) → rank < length (anchors_in chart number) →
      slice_index codes rank ≡ morton_of grid.height grid.base (row_at (anchors_in chart number) rank).cell
  unfolding anchor_codes
  code-at rank within =
      get_or-map (λ (row : Row). morton_of grid.height grid.base row.cell) (anchors_in chart number) rank no_row 0
      within

  -- the leaf of an anchor has its cell
  cell-at : (rank : ℕ) → rank < length (anchors_in chart number) →
      slice_index_or (tree_in (own_view chart is number)).cells
      (rank_of (ends_of (leaf_codes codes)) (inverse_of (leaf_order codes) rank)) grid.base
      ≡ (row_at (anchors_in chart number) rank).cell
  unfolding period_of_chart
  cell-at rank within =
      let place : ℕ = inverse_of (leaf_order codes) rank in
      let anchor : Row = row_at (anchors_in chart number) rank in
      let permutes = PermutesPlaces-leaf_order codes in
      let long = length-leaf_order codes in
      let inside : place < length (leaf_order codes) =
      inverse_of-within (leaf_order codes) rank permutes
      (omega (arith, length-anchor_codes chart number)) in
      let there : slice_index (leaf_order codes) place ≡ rank = at-inverse_of (leaf_order codes) rank inside in
      let leaf : ℕ = rank_of (ends_of (leaf_codes codes)) place in
      let code : slice_index (distinct_codes codes) leaf ≡ slice_index codes rank =
      distinct_codes-at_rank codes place (omega arith) ∙ ap (slice_index codes) there in
      let low : leaf < length (distinct_codes codes) = rank_of-leaf_ends codes place (omega arith) in
      let inside' = Contains-get_or (anchors_in chart number) rank no_row within in
      let among = (IsAnchorIn-member chart is number anchor inside').among in
      ap (λ tree. slice_index_or tree.cells leaf grid.base) (tree_in-own chart is number)
      ∙ get_or-map (cell_of grid.height grid.base) (distinct_codes codes) leaf 0 grid.base low
      ∙ ap (cell_of grid.height grid.base) (code ∙ code-at rank within)
      ∙ cell_of-morton_of grid.height grid.base anchor.cell (row-in_grid chart is anchor among)

  abbrev present : List Bool
  present = map (is_present chart number) (objects_of chart.rows)

  abbrev parts_view : SnapshotView
  parts_view = snapshot_in (compressed_parts_of chart) number

  own : parts_view ≡ own_view chart is number
  own = snapshot_in-compressed_parts_of chart is number below

  -- where there is no bit, there is no block
  none-off : (i : ℕ) → slice_index_or present i false ≡ false → block_of parts_view i ≡ None
  unfolding period_of_chart
  none-off i off = ap (λ view. block_of view i) own ∙ rw off refl

  module _ (i : ℕ) (within : i < length (objects_of chart.rows)) where
    abbrev object : ℕ
    object = slice_index (objects_of chart.rows) i

    abbrev rank : ℕ
    rank = rank_of present i

    bit : slice_index_or present i false ≡ is_present chart number object
    bit = get_or-map (is_present chart number) (objects_of chart.rows) i 0 false within

    HasBlock-own : is_present chart number object ≡ true →
        HasBlock chart number i (row_at (anchors_in chart number) rank) (present_block (own_view chart is number) i)
    unfolding period_of_chart
    HasBlock-own on =
        let has = anchor_of-present chart is number i within on in
        let counted : number < period_count chart.rows chart.period = omega (arith, periods_of-frame_of chart) in
        record {
          anchored = has.1;
          among = Contains-get_or (anchors_in chart number) rank no_row has.0;
          found = ap (λ view. block_of view i) own ∙ rw (bit ∙ on) refl;
          index = refl;
          offset = get_or-map (λ (row : Row). elapsed (first_of chart.rows) row % chart.period)
              (anchors_in chart number) rank no_row 0 has.0;
          cell = cell-at rank has.0;
          logged = subst (λ log. Contains (logged_anchors chart) (row_at (anchors_in chart number) rank, log))
              (sym (slice_range-log chart number below rank has.0)) (logged-at chart number counted rank has.0);
        }

    -- an object has neither anchor nor block, or the block of its anchor
    pub block-anchor : ((anchor_of chart number object ≡ None) × (block_of parts_view i ≡ None))
        ⊎ ((anchor : Row) × (block : Anchored) × HasBlock chart number i anchor block)
    block-anchor = elim (cases_Bool (is_present chart number object)) [
      | inl on ↦ inr (
        row_at (anchors_in chart number) rank,
        present_block (own_view chart is number) i,
        HasBlock-own on,
      )
      | inr off ↦ inl (anchor_of-absent chart is number i within off, none-off i (bit ∙ off))
    ]

  -- a block that an object has is that of its anchor
  IsAnchored-block_of : (i : ℕ) (block : Anchored) → block_of parts_view i ≡ Some block → IsAnchored chart number block
  IsAnchored-block_of i block found = elim (cases_lt i (length (objects_of chart.rows))) [
    | inr past ↦
        let long = length-map (objects_of chart.rows) (is_present chart number) in
        absurd (none-some block (sym (none-off i (get_or_past present i false (omega arith))) ∙ found))
    | inl within ↦ elim (block-anchor i within) [
      | inl none ↦ absurd (none-some block (sym none.1 ∙ found))
      | inr some ↦
          let same : some.1 ≡ block = same_Some some.1 block (sym some.2.found ∙ found) in
          let index : i ≡ block.index = sym some.2.index ∙ ap (λ (b : Anchored). b.index) same in
          record {
            within = omega (arith, index);
            anchor = some.0;
            has = subst (λ b. HasBlock chart number block.index some.0 b) same
                (subst (λ j. HasBlock chart number j some.0 some.1) index some.2);
          }
    ]
  ]

  -- each block of a period is that of one of its anchors
  pub All-all_blocks : All (IsAnchored chart number) (all_blocks parts_view)
  unfolding all_blocks
  All-all_blocks =
      All-filter_map (IsAnchored chart number) (block_of parts_view)
      (range_with_len 0 (length (compressed_parts_of chart).objects)) IsAnchored-block_of

-- an instant by its period and by those before it there
instant_in : (first instant : ℤ) (period number offset : ℕ) → first ≤ℤ instant →
    unsigned_abs (instant -ℤ first) / period ≡ number → offset ≡ unsigned_abs (instant -ℤ first) % period →
    (first +ℤ pos (number * period)) +ℤ pos offset ≡ instant
instant_in first instant period number offset begins at is =
    let before : ℕ = unsigned_abs (instant -ℤ first) in
    let parts : period * (before / period) + before % period ≡ before = div-add-mod before period in
    let times : period * number + offset ≡ before = rw (← at, is) parts in
    omega (arith, ints)

module _ (chart : ChartView) (is : IsChart chart) where
  abbrev parts : Parts
  parts = compressed_parts_of chart

  -- the anchor of a block is at its row's instant
  anchored_at-block : (number i : ℕ) (anchor : Row) (block : Anchored) → HasBlock chart number i anchor block →
      anchored_at parts.frame number block ≡ anchor.instant
  unfolding compressed_parts_of frame_of
  anchored_at-block number i anchor block has =
      let its = IsAnchorIn-member chart is number anchor has.among in
      let begins = All-contains (λ row. first_of chart.rows ≤ℤ row.instant) chart.rows anchor
      (first_of-below chart.rows) its.among in
      instant_in (first_of chart.rows) anchor.instant chart.period number block.offset begins its.period has.offset

  stops_of-block : (number i : ℕ) (anchor : Row) (block : Anchored) → HasBlock chart number i anchor block →
      stops_of parts number block ≡ anchor_stops chart anchor
  unfolding block_stops stops_after anchor_stops
  stops_of-block number i anchor block has =
      rw (
        anchored_at-block number i anchor block has,
        has.cell,
        log-values chart anchor (log_in parts block) has.logged,
      ) refl

  -- the stops of an object in a period are those of its anchor there
  stops_in-chart : (i number : ℕ) → i < length (objects_of chart.rows) → number < periods_of (frame_of chart) →
      stops_in parts i number ≡ stops_with chart (anchor_of chart number (slice_index (objects_of chart.rows) i))
  unfolding stops_in stops_with
  stops_in-chart i number within below = elim (block-anchor chart is number below i within) [
    | inl none ↦ ap (stops_in_block parts number) none.1 ∙ sym (ap (stops_with chart) none.0)
    | inr some ↦
        ap (stops_in_block parts number) some.2.found ∙ stops_of-block number i some.0 some.1 some.2
        ∙ sym (ap (stops_with chart) some.2.anchored)
  ]

  -- the rows that the parts hold of an object are those of its blocks
  rows_in-chart : (i : ℕ) → i < length (objects_of chart.rows) →
      rows_in parts i ≡ track_of chart (slice_index (objects_of chart.rows) i)
  unfolding compressed_parts_of rows_in
  rows_in-chart i within =
      let object : ℕ = slice_index (objects_of chart.rows) i in
      ap (map (row_of object)) (flat_map_alike (stops_in parts i)
      (λ number. stops_with chart (anchor_of chart number object)) (numbers_in (frame_of chart))
      (λ number inside.
      let bounds = member_of_range 0 (periods_of (frame_of chart)) number inside in
      stops_in-chart i number within (omega (arith, bounds.1))))

  -- the chart of the parts is the chart
  pub chart_in-chart : chart_in parts ≡ chart
  unfolding compressed_parts_of frame_of chart_in
  chart_in-chart =
      let objects : List ℕ = objects_of chart.rows in
      let rows : flat_map (rows_in parts) (range_with_len 0 (length objects)) ≡ chart.rows =
      flat_map_alike (rows_in parts) (λ i. track_of chart (slice_index objects i)) (range_with_len 0 (length objects))
      (λ i inside. let bounds = member_of_range 0 (length objects) i inside in
      rows_in-chart i (omega (arith, bounds.1)))
      ∙ flat_map-places (track_of chart) objects ∙ rows-tracks chart is in
      rw (rows, last_in-frame_of chart is, sym is.first, sym is.last) refl

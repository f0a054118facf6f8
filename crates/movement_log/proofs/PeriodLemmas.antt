-- Blocks by period: all anchors, each once, and no more terminals than a chart may have.
use Rattle.std.proofs.Common.{◌≡◌, ℕ, ◌<◌, List, get_or, map, refl, sym, ◌∙◌, ap}
use Rattle.std.specs.Prelude.{All, sum_by}
use Rattle.std.specs.List.Sorted.{IsNonDecreasingBy, IsPermutation, IsStableByKey}
use Rattle.std.specs.Ordering.{nat_cmp}
use Rattle.std.proofs.lemmas.List.Elements.{All-filter}
use Rattle.std.proofs.lemmas.List.Sorted.{All-permutation}
use Rattle.list_laws.proofs.KeyRangeLemmas.{by_key, by_key-sorted, by_key-stable, map-by_key, sum_by-by_key}
use Rattle.track_types.proofs.QuantityLemmas.{elapsed-span}
use Rattle.track_types.proofs.TimelineLemmas.{quotient-within}
use Rattle.track_types.specs.Chart.{ChartView}
use Rattle.track_types.specs.Quantities.{anchors_of, elapsed, first_of, is_anchor, period_count, period_of, span_of}
use Rattle.track_types.specs.declared.row.Row.{Row}
use Rattle.movement_log.specs.Blocks.{AreBlocks, IsBlockIn, anchor_in, anchors_by_object, no_row}
use Rattle.movement_log.specs.Logs.{block_anchors}
use Rattle.movement_log.specs.declared.blocks.Block.{Block}

module _ (chart : ChartView) (some : 0 < chart.period) where
  abbrev pub row_period : Row → ℕ
  row_period row = period_of (first_of chart.rows) chart.period row

  abbrev pub block_period : Block → ℕ
  block_period block = block.head.period

  pub rows_below : All (λ row. row_period row < period_count chart.rows chart.period) chart.rows
  rows_below k d within =
      quotient-within (span_of chart.rows) chart.period some (elapsed (first_of chart.rows) (get_or chart.rows k d))
      (elapsed-span chart.rows k d within)

  -- there are as many terminals by period as by object
  pub sum_by-block_anchors : (f : Row → ℕ) → sum_by f (block_anchors chart) ≡ sum_by f (anchors_by_object chart)
  unfolding block_anchors anchors_of
  sum_by-block_anchors f =
      sum_by-by_key row_period f (period_count chart.rows chart.period) (anchors_by_object chart)
      (All-filter (is_anchor (first_of chart.rows) chart.period chart.rows)
      (λ row. row_period row < period_count chart.rows chart.period) chart.rows rows_below)

  -- blocks by object, sorted stably by period, are the blocks by period
  pub sorted_blocks : (xs ys : List Block) → AreBlocks chart (anchors_by_object chart) xs → IsPermutation xs ys →
      IsNonDecreasingBy block_period ys → IsStableByKey block_period nat_cmp xs ys → AreBlocks chart (block_anchors chart) ys
  unfolding block_anchors
  sorted_blocks xs ys blocks moved up stable =
      let n : ℕ = period_count chart.rows chart.period in
      let each : All (IsBlockIn chart) ys = All-permutation (IsBlockIn chart) xs ys moved blocks.each in
      let below : All (λ block. block_period block < n) ys = λ k d within.
      let block = get_or ys k d in
      let is : IsBlockIn chart block = each k d within in
      let period : block_period block ≡ row_period (anchor_in chart.rows block) = ap (λ head. head.period) is.head in
      rw period (rows_below block.at no_row is.within) in
      let any_of : ℕ → Block = λ k. record { head = record { period = k; index = 0; offset = 0; cell = no_row.cell }; at = 0 } in
      let keys : by_key block_period 0 n xs ≡ ys =
      by_key-stable block_period any_of (λ k. refl) n xs ys stable ∙ by_key-sorted block_period n ys up below in
      let alike : All (λ block. block_period block ≡ row_period (anchor_in chart.rows block)) xs = λ k d within.
      ap (λ head. head.period) (blocks.each k d within).head in
      record {
        anchors =
            ap (map (anchor_in chart.rows)) (sym keys)
            ∙ map-by_key (anchor_in chart.rows) block_period row_period 0 n xs alike
            ∙ ap (by_key row_period 0 n) blocks.anchors;
        each = each;
      }

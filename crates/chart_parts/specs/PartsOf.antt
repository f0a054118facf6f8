-- The parts that a chart is written as.
use Rattle.std.specs.Prelude.{ℕ, ◌%◌, ◌==◌, Bool, List, length, map, filter}
use Rattle.std.specs.List.{flat_map, list_any, zip}
use Rattle.track_types.specs.Chart.{ChartView}
use Rattle.track_types.specs.Quantities.{elapsed, first_of, objects_of, period_of}
use Rattle.track_types.specs.declared.parts.Parts.{Parts}
use Rattle.track_types.specs.declared.period_parts.PeriodParts.{PeriodParts}
use Rattle.track_types.specs.declared.row.Row.{Row}
use Rattle.k2_tree.specs.Morton.{morton_of}
use Rattle.k2_tree.specs.TreeBits.{morton_bits}
use Rattle.movement_log.specs.Logs.{anchors_in, block_anchors, logs_of}
use Rattle.repair_grammar.specs.RePair.{re_pair}
use Rattle.repair_grammar.specs.declared.grammar.Grammar.{Grammar}
use Rattle.snapshots.specs.Parts.{numbers_in}
use Rattle.snapshots.specs.View.{widths_in}
use Rattle.parts_order.specs.SettledParts.{settled_parts}
use Rattle.chart_parts.specs.Header.{frame_of}
use Rattle.chart_parts.specs.LeafOrder.{distinct_codes, ends_of, leaf_codes, leaf_order}

-- the rules of Re-Pair over the logs of all blocks, and the logs that these leave
unfoldable pub grammar_of : ChartView → Grammar
grammar_of chart = re_pair (length (logs_of chart).alphabet) (logs_of chart).terminals

-- each block's anchor beside its log, by period, then object
unfoldable pub logged_anchors : ChartView → List (Row × List ℕ)
logged_anchors chart = zip (block_anchors chart) (grammar_of chart).blocks

-- the logs of a period, by object
unfoldable pub logs_in : ChartView → ℕ → List (List ℕ)
logs_in chart number = map (λ block. block.1)
    (filter (λ block. period_of (first_of chart.rows) chart.period block.0 == number) (logged_anchors chart))

-- whether an object has a block in a period
abbrev pub is_present : ChartView → ℕ → ℕ → Bool
is_present chart number object = list_any (λ anchor. anchor.object == object) (anchors_in chart number)

-- the Morton numbers of the anchors' cells of a period, by object
unfoldable pub anchor_codes : ChartView → ℕ → List ℕ
anchor_codes chart number =
    map (λ anchor. morton_of (frame_of chart).height (frame_of chart).base anchor.cell) (anchors_in chart number)

-- the parts of a period
unfoldable pub period_of_chart : ChartView → ℕ → PeriodParts
period_of_chart chart number = record {
  present = map (is_present chart number) (objects_of chart.rows);
  offsets = map (λ anchor. elapsed (first_of chart.rows) anchor % chart.period) (anchors_in chart number);
  tree = morton_bits (widths_in (frame_of chart)) (distinct_codes (anchor_codes chart number));
  lasts = ends_of (leaf_codes (anchor_codes chart number));
  perm = leaf_order (anchor_codes chart number);
  lengths = map length (logs_in chart number);
}

-- the parts of a chart with the rules as Re-Pair makes them
unfoldable pub compressed_parts_of : ChartView → Parts
compressed_parts_of chart = record {
  frame = frame_of chart;
  objects = objects_of chart.rows;
  alphabet = (logs_of chart).alphabet;
  rules = (grammar_of chart).rules;
  periods = map (period_of_chart chart) (numbers_in (frame_of chart));
  symbols = flat_map (λ log. log) (grammar_of chart).blocks;
}

-- the parts of a chart: those with the rules in order
unfoldable pub parts_of : ChartView → Parts
parts_of chart = settled_parts (compressed_parts_of chart)

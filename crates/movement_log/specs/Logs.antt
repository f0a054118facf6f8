-- The blocks of a chart: their headers, their logs, and the alphabet that these use.
use Rattle.std.specs.Prelude.{ℕ, suc, ◌%◌, max, pos, ◌+ℤ◌, ◌==◌, List, filter, fold, length, map}
use Rattle.std.specs.List.{flat_map, list_any, position_or_len, range_with_len}
use Rattle.track_types.specs.Chart.{ChartView}
use Rattle.track_types.specs.Quantities.{anchors_of, elapsed, first_of, log_length, objects_of, period_count, period_of, span_of}
use Rattle.track_types.specs.declared.row.Row.{Row}
use Rattle.movement_log.specs.Values.{value_at}
use Rattle.movement_log.specs.declared.head.Head.{Head}
use Rattle.movement_log.specs.declared.raw_logs.JoinedLogs.{JoinedLogs}
use Rattle.movement_log.specs.declared.raw_logs.RawLogs.{RawLogs}

-- the anchors of a period, by object
abbrev pub anchors_in : ChartView → ℕ → List Row
anchors_in chart period = filter (λ anchor. period_of (first_of chart.rows) chart.period anchor == period)
    (anchors_of (first_of chart.rows) chart.period chart.rows)

-- the anchors of all blocks, by period, then object
unfoldable pub block_anchors : ChartView → List Row
block_anchors chart = flat_map (anchors_in chart) (range_with_len 0 (period_count chart.rows chart.period))

-- the header of an anchor's block
abbrev pub head_of : ChartView → Row → Head
head_of chart anchor = record {
  period = period_of (first_of chart.rows) chart.period anchor;
  index = position_or_len (λ object. object == anchor.object) (objects_of chart.rows);
  offset = elapsed (first_of chart.rows) anchor % chart.period;
  cell = anchor.cell;
}

-- the values of an anchor's block: one for each later instant of its period
abbrev pub values_after : ChartView → Row → List ℕ
values_after chart anchor = map (λ n. value_at chart.rows anchor.object (anchor.instant +ℤ pos n))
    (range_with_len 1 (log_length (first_of chart.rows) (span_of chart.rows) chart.period anchor))

-- the logs of all blocks, as values
unfoldable pub logged_values : ChartView → List (List ℕ)
logged_values chart = map (values_after chart) (block_anchors chart)

-- the numbers that stand in a list, each once and ascending
unfoldable pub ascending_of : List ℕ → List ℕ
ascending_of xs = filter (λ n. list_any (λ x. x == n) xs) (range_with_len 0 (suc (fold max 0 xs)))

-- the values that the logs use
unfoldable pub alphabet_of : ChartView → List ℕ
alphabet_of chart = ascending_of (flat_map (λ values. values) (logged_values chart))

-- the place of a value in an alphabet
abbrev pub terminal_of : List ℕ → ℕ → ℕ
terminal_of alphabet value = position_or_len (λ other. other == value) alphabet

-- the blocks of a chart before there is a grammar
unfoldable pub logs_of : ChartView → RawLogs
logs_of chart = record {
  alphabet = alphabet_of chart;
  heads = map (head_of chart) (block_anchors chart);
  terminals = map (λ values. map (terminal_of (alphabet_of chart)) values) (logged_values chart);
}

-- the same blocks, with the terminals of all logs in one list, and the length of each log
abbrev pub joined_logs : RawLogs → JoinedLogs
joined_logs raw = record {
  alphabet = raw.alphabet;
  heads = raw.heads;
  terminals = flat_map (λ log. log) raw.terminals;
  lengths = map length raw.terminals;
}

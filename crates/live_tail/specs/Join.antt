-- The chart of an index and of a tail, the chart of later rows, as if they had been built together.
use Rattle.std.specs.Prelude.{◌≡◌, List, ◌++◌, Option, None, Some}
use Rattle.std.specs.Int.{int_max, int_min}
use Rattle.track_types.specs.Chart.{ChartView}
use Rattle.track_types.specs.declared.raw_row.RawRow.{RawRow}
use Rattle.gridding.specs.ChartOf.{chart_rows}
unfoldable pub use Rattle.path_union.specs.Union.{rows_of_both}
pub use Rattle.path_union.specs.Union.{has_place, rows_beside, rows_of_tail}

-- the chart of both: from the lesser of both firsts to the greater of both lasts, and in all else the chart's
abbrev pub joint_chart : ChartView → Option ChartView → ChartView
joint_chart chart None = chart
joint_chart chart (Some tail) = record {
  rows = rows_of_both chart.rows tail.rows;
  first = int_min chart.first tail.first;
  last = int_max chart.last tail.last;
  period = chart.period;
  cell = chart.cell;
  tick = chart.tick;
}

-- the rows of both are those of the chart of all raw rows, where the chart's rows were gridded from some of these, and the
-- tail's, by the same cell and tick, from the others, which come after these
pub record IsAsBuiltTogether (chart : ChartView) (tail : Option ChartView) : Type 0 where
  pub from_raw : (raws more : List RawRow) → chart.rows ≡ chart_rows raws chart.cell chart.tick
      → rows_of_tail tail ≡ chart_rows more chart.cell chart.tick
      → (joint_chart chart tail).rows ≡ chart_rows (raws ++ more) chart.cell chart.tick

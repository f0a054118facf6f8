-- The header of a chart's index: the axis of time and the grid that hold the chart's rows.
use Rattle.std.specs.Prelude.{ℕ, suc, ◌^◌, nat_le}
use Rattle.std.specs.List.{position_or_len, range_with_len}
use Rattle.track_types.specs.Chart.{ChartView}
use Rattle.track_types.specs.Quantities.{columns_of, extent_of, first_of, least, lines_of, span_of}
use Rattle.track_types.specs.declared.frame.Frame.{Frame}
use Rattle.track_types.specs.declared.limit.TheConstants.{MAX_HEIGHT, MAX_VERSION}

-- the least height from 1 on whose grid is as wide as this
abbrev pub height_for : ℕ → ℕ
height_for extent = suc (position_or_len (λ height. nat_le extent (2 ^ height)) (range_with_len 1 MAX_HEIGHT))

-- the header, in the newest version: the grid's least corner has the least column and the least line of the chart's cells
unfoldable pub frame_of : ChartView → Frame
frame_of chart = record {
  version = MAX_VERSION;
  first = first_of chart.rows;
  span = span_of chart.rows;
  period = chart.period;
  height = height_for (extent_of chart.rows);
  base = record { x = least (columns_of chart.rows); y = least (lines_of chart.rows) };
  cell = chart.cell;
  tick = chart.tick;
}

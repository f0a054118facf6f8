-- The chart of the rows of two charts.
use Rattle.std.specs.Prelude.{List}
use Rattle.track_types.specs.Chart.{ChartView, chart_with}
use Rattle.track_types.specs.declared.row.Row.{Row}
use Rattle.path_union.specs.Union.{rows_of_both}

-- a chart with later rows, which count where both have one of an object and an instant: from the least to the greatest
-- of all instants, with the numbers by which the chart was gridded
abbrev pub extension_of : ChartView → List Row → ChartView
extension_of chart later = chart_with (rows_of_both chart.rows later) chart.cell chart.tick chart.period

-- the union of two charts has the rows of both, and the numbers by which the first one was gridded
abbrev pub union_of : ChartView → ChartView → ChartView
union_of left right = extension_of left right.rows

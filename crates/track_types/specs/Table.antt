-- What holds of the chart of any answerer. It is less than what holds of a chart that was built from rows: a chart that
-- was read from a file may have no row, or more rows than can be kept.
use Rattle.std.specs.Prelude.{◌≤ℤ◌, All}
use Rattle.track_types.specs.Chart.{ChartView}
use Rattle.track_types.specs.Near.{IsAsked, IsCellWithin}
use Rattle.track_types.specs.Row.{IsAscending}
use Rattle.track_types.specs.declared.row.Row.{Row}

-- a row lies between the chart's first and last instant, and its cell is near
pub record IsRowOf (chart : ChartView) (row : Row) : Type 0 where
  pub begins : chart.first ≤ℤ row.instant
  pub ends : row.instant ≤ℤ chart.last
  pub cell : IsCellWithin row.cell

-- the rows ascend and lie within the chart, whose ends are near
pub record IsTable (chart : ChartView) : Type 0 where
  pub ascending : IsAscending chart.rows
  pub rows : All (IsRowOf chart) chart.rows
  pub first : IsAsked chart.first
  pub last : IsAsked chart.last

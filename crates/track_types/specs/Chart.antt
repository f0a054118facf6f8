-- What a chart is: a table of gridded rows, and the numbers by which it was gridded.
use Rattle.std.specs.Prelude.{◌≡◌, ℕ, ◌<◌, ◌≤◌, ℤ, List, length, All}
use Rattle.track_types.specs.Limits.{IsPeriod, IsResolution, limit_of}
use Rattle.track_types.specs.Near.{IsRowInRange}
use Rattle.track_types.specs.Quantities.{block_count, extent_of, first_of, last_of, object_count, span_of, symbol_count}
use Rattle.track_types.specs.Row.{IsAscending}
use Rattle.track_types.specs.declared.limit.LimitKind.TheVariants.{Rows, Objects, Span, Extent, Blocks, Symbols}
use Rattle.track_types.specs.declared.row.Row.{Row}

-- a table of rows with its first and last instant, how many instants a period has, how many units a cell
-- is wide, and how many an instant lasts
pub record ChartView : Type 0 where
  pub rows : List Row
  pub first : ℤ
  pub last : ℤ
  pub period : ℕ
  pub cell : ℕ
  pub tick : ℕ

-- the table of these rows
abbrev pub chart_with : List Row → ℕ → ℕ → ℕ → ChartView
chart_with rows cell tick period =
    record { rows = rows; first = first_of rows; last = last_of rows; period = period; cell = cell; tick = tick }

-- what holds of every chart
pub record IsChart (chart : ChartView) : Type 0 where
  pub some : 0 < length chart.rows
  pub rows : length chart.rows ≤ limit_of Rows
  pub ascending : IsAscending chart.rows
  pub in_range : All IsRowInRange chart.rows
  pub first : chart.first ≡ first_of chart.rows
  pub last : chart.last ≡ last_of chart.rows
  pub cell : IsResolution chart.cell
  pub tick : IsResolution chart.tick
  pub period : IsPeriod chart.period
  pub objects : object_count chart.rows ≤ limit_of Objects
  pub span : span_of chart.rows ≤ limit_of Span
  pub extent : extent_of chart.rows ≤ limit_of Extent
  pub blocks : block_count chart.rows chart.period ≤ limit_of Blocks
  pub symbols : symbol_count chart.rows chart.period ≤ limit_of Symbols

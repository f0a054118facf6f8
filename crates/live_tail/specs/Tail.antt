-- What a tail keeps in place of its chart.
use Rattle.std.specs.Prelude.{◌≡◌, List, IfSome, Option, None, Some}
use Rattle.track_types.specs.Chart.{ChartView, IsChart}
use Rattle.track_types.specs.declared.extents.Extent.{Extent}
use Rattle.track_types.specs.declared.row.Row.{Row}
use Rattle.live_tail.specs.declared.chunk.Chunk.{Chunk}
use Rattle.live_tail.specs.declared.outline.Outline.{Outline}
use Rattle.live_tail.specs.declared.small_row.Origin.{Origin}
use Rattle.live_tail.specs.ByInstant.{AreByInstant}
use Rattle.live_tail.specs.Chunks.{AreChunksOf}
use Rattle.live_tail.specs.Join.{rows_of_tail}

-- the chart of an outline and rows
abbrev pub chart_from : Option Outline → List Row → Option ChartView
chart_from None rows = None
chart_from (Some outline) rows = Some (record {
  rows = rows;
  first = outline.time.least;
  last = outline.time.greatest;
  period = outline.period;
  cell = outline.cell;
  tick = outline.tick;
})

-- a tail keeps the rows of its chart, the same by instant, and their chunks
pub record IsKept (outline : Option Outline) (origin : Origin) (rows sorted : List Row) (chunks : List Chunk) : Type 0 where
  pub rows_are : rows_of_tail (chart_from outline rows) ≡ rows
  pub chart : IfSome (chart_from outline rows) IsChart
  pub first : IfSome outline (λ own. origin.instant ≡ own.time.least)
  pub sorted_are : AreByInstant rows sorted
  pub chunks_are : AreChunksOf rows chunks

-- a tail's first and last instant
pub record IsTimeOf (tail : Option ChartView) (time : Extent) : Type 0 where
  pub chart : ChartView
  pub is : tail ≡ Some chart
  pub first : chart.first ≡ time.least
  pub last : chart.last ≡ time.greatest
  pub sound : IsChart chart

-- What contracts see of an index with a tail.
use Rattle.std.specs.Prelude.{◌≡◌, Option}
use Rattle.track_types.specs.Chart.{ChartView}
use Rattle.track_types.specs.declared.frame.Frame.{Frame}
use Rattle.track_types.specs.declared.parts.Parts.{Parts}

-- the parts of the index, and the chart of the tail, if there is one
pub record TailedView : Type 0 where
  pub parts : Parts
  pub tail : Option ChartView

-- a chart was gridded by the numbers of a header
pub record IsOfFrame (frame : Frame) (chart : ChartView) : Type 0 where
  pub period : chart.period ≡ frame.period
  pub cell : chart.cell ≡ frame.cell
  pub tick : chart.tick ≡ frame.tick

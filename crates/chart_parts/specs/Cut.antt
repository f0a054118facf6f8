-- What is cut from a chart, before there are rules.
use Rattle.std.specs.Prelude.{◌≡◌}
use Rattle.track_types.specs.Chart.{ChartView, IsChart}
use Rattle.track_types.specs.Quantities.{objects_of}
use Rattle.track_types.specs.PartsForm.{AreShort}
use Rattle.movement_log.specs.Logs.{joined_logs, logs_of}
use Rattle.movement_log.specs.declared.raw_logs.JoinedLogs.{JoinedLogs}
use Rattle.chart_parts.specs.Header.{frame_of}
use Rattle.chart_parts.specs.declared.writing.CutChart.{CutChart}

-- the raw logs are those of a chart
pub record AreLogsOf (chart : ChartView) (raw : JoinedLogs) : Type 0 where
  pub is : IsChart chart
  pub logs : raw ≡ joined_logs (logs_of chart)

-- the raw logs are those of some chart
abbrev pub AreLogs : JoinedLogs → Type 0
AreLogs raw = (chart : ChartView) × AreLogsOf chart raw

-- header, objects and raw logs are those of a chart
pub record IsCutOf (chart : ChartView) (cut : CutChart) : Type 0 where
  pub is : IsChart chart
  pub frame : cut.frame ≡ frame_of chart
  pub objects : cut.objects.items ≡ objects_of chart.rows
  pub short : AreShort cut.objects.items
  pub logs : cut.logs ≡ joined_logs (logs_of chart)

-- they are those of some chart
abbrev pub IsCut : CutChart → Type 0
IsCut cut = (chart : ChartView) × IsCutOf chart cut

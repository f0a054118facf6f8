-- The rows of an index and a tail are those of all raw rows.
use Rattle.std.proofs.Common.{Option, sym, ◌∙◌}
use Rattle.track_types.specs.Chart.{ChartView}
use Rattle.track_types.specs.Row.{IsAscending}
use Rattle.track_types.specs.declared.parts.Parts.{Parts}
use Rattle.snapshots.specs.Parts.{chart_in}
use Rattle.snapshots.specs.SoundParts.{IsValid}
use Rattle.object_track.proofs.TableLemmas.{IsTable-chart_in}
use Rattle.path_union.proofs.LawLemmas.{as_built}
use Rattle.live_tail.specs.Join.{IsAsBuiltTogether, rows_of_tail}
use Rattle.live_tail.proofs.JoinLemmas.{joint_chart-rows}

-- where the chart's rows are in order
pub is_as_built_together : (chart : ChartView) (tail : Option ChartView) → IsAscending chart.rows → IsAsBuiltTogether chart tail
is_as_built_together chart tail up = record {
  from_raw = λ raws more from_raws from_more.
      sym (joint_chart-rows chart tail up)
      ∙ as_built chart.cell chart.tick chart.rows (rows_of_tail tail) raws more from_raws from_more;
}

-- as those of an index are
pub together : (parts : Parts) (tail : Option ChartView) → IsValid parts → IsAsBuiltTogether (chart_in parts) tail
together parts tail valid = is_as_built_together (chart_in parts) tail (IsTable-chart_in parts valid).ascending

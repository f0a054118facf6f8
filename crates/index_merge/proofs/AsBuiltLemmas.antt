-- Charts of raw rows, made from an index and later rows.
use Rattle.std.proofs.Common.{List, ap}
use Rattle.track_types.specs.Chart.{chart_with}
use Rattle.track_types.specs.declared.parts.Parts.{Parts}
use Rattle.track_types.specs.declared.row.Row.{Row}
use Rattle.snapshots.specs.Parts.{chart_in}
use Rattle.path_union.proofs.LawLemmas.{as_built}
use Rattle.index_merge.specs.Extension.{IsAsBuilt}

-- the chart of an index and later rows is that of all raw rows
pub is_as_built : (parts : Parts) (later : List Row) → IsAsBuilt parts later
unfolding chart_in
is_as_built parts later = record {
  from_raw = λ raws more from_raws from_more.
      ap (λ rows. chart_with rows parts.frame.cell parts.frame.tick parts.frame.period)
      (as_built parts.frame.cell parts.frame.tick (chart_in parts).rows later raws more from_raws from_more);
}

-- The chart of an index and later rows: why there may be none, what it costs, and whose chart it is.
use Rattle.std.specs.Prelude.{◌≡◌, ℕ, List, ◌++◌, Option}
use Rattle.track_types.specs.declared.parts.Parts.{Parts}
use Rattle.track_types.specs.declared.raw_row.RawRow.{RawRow}
use Rattle.track_types.specs.declared.row.Row.{Row}
use Rattle.gridding.specs.ChartOf.{chart_of, chart_rows}
use Rattle.gridding.specs.declared.fault.GridFault.{GridFault}
use Rattle.snapshots.specs.Parts.{chart_in}
use Rattle.path_union.specs.Fault.{rows_fault}
use Rattle.path_union.specs.Union.{rows_of_both}
use Rattle.index_merge.specs.Cost.{drawing_cost}
pub use Rattle.index_merge.specs.Union.{extension_of}

-- the first cause for which an index and later rows have no chart
abbrev pub extension_fault : Parts → List Row → Option GridFault
extension_fault parts later = rows_fault (rows_of_both (chart_in parts).rows later) parts.frame.period

-- how many reads it takes at most to make that chart: the later rows are at hand
unfoldable pub extension_cost : Parts → List Row → ℕ
extension_cost parts later = drawing_cost (rows_of_both (chart_in parts).rows later) parts

-- the chart is that of all raw rows, where the index's rows were gridded from some of them, and the later rows from the
-- others, which come after these
pub record IsAsBuilt (parts : Parts) (later : List Row) : Type 0 where
  pub from_raw : (raws more : List RawRow) → (chart_in parts).rows ≡ chart_rows raws parts.frame.cell parts.frame.tick
      → later ≡ chart_rows more parts.frame.cell parts.frame.tick
      → extension_of (chart_in parts) later ≡ chart_of (raws ++ more) parts.frame.cell parts.frame.tick parts.frame.period

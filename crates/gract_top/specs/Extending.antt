-- What an index file and later rows are as one, or why they are not.
use Rattle.std.specs.Prelude.{◌≡◌, ℕ, List, ◌++◌, Option, Some, ◌⊎◌}
use Rattle.history.specs.Loads.{Load}
use Rattle.host_ports.specs.FileMap.{FileMap}
use Rattle.track_types.specs.Chart.{ChartView}
use Rattle.track_types.specs.Limits.{limit_of}
use Rattle.track_types.specs.declared.limit.LimitKind.TheVariants as limit
use Rattle.track_types.specs.declared.parts.Parts.{Parts}
use Rattle.track_types.specs.declared.raw_row.RawRow.{RawRow}
use Rattle.row_reader.specs.Rows.{raws_of}
use Rattle.gridding.specs.ChartOf.{chart_rows}
use Rattle.gridding.specs.declared.fault.GridFault.{GridFault}
use Rattle.gridding.specs.declared.fault.GridFault.TheVariants as fault
use Rattle.snapshots.specs.Parts.{chart_in}
use Rattle.chart_parts.specs.PartsOf.{parts_of}
use Rattle.index_file.specs.File.{file_bytes}
use Rattle.path_union.specs.Union.{rows_of_tail}
use Rattle.index_merge.specs.Extension.{extension_fault, extension_of}
use Rattle.gract_top.specs.Loading.{FileCame}
use Rattle.gract_top.specs.Merging.{built_bytes}
use Rattle.gract_top.specs.declared.outcome.Outcome.{Outcome}
use Rattle.gract_top.specs.declared.outcome.Outcome.TheVariants as outcome

-- the outcome of an index and later rows that have no chart
abbrev pub extension_outcome : GridFault → Outcome
extension_outcome fault.Empty = outcome.Empty
extension_outcome (fault.Limit kind value) = outcome.Limit kind value
extension_outcome fault.Memory = outcome.Memory

-- the bytes of the index file of what an index holds and of a tail
abbrev pub extension_bytes : Parts → Option ChartView → List ℕ
extension_bytes parts tail = file_bytes (parts_of (extension_of (chart_in parts) (rows_of_tail tail)))

-- Why an index and a tail were not made one: they have no chart, for that fault, or out of memory.
abbrev pub NotExtended : Outcome → Parts → Option ChartView → Type 0
NotExtended result parts tail =
    (result ≡ outcome.Memory)
    ⊎ ((found : GridFault) × (extension_fault parts (rows_of_tail tail) ≡ Some found) × (result ≡ extension_outcome found))

-- Whatever raw rows an index was built from: with the tail that came of that file it is saved as what is built from
-- these and all rows of the file.
abbrev pub IsExtendedAsBuilt : Parts → Option ChartView → Option FileMap → List Load → ℕ → List ℕ → Type 0
IsExtendedAsBuilt parts tail map loads taken csv = (raws : List RawRow) (bytes : List ℕ)
    → (chart_in parts).rows ≡ chart_rows raws parts.frame.cell parts.frame.tick
    → FileCame map loads taken csv (limit_of limit.Csv) bytes
    → extension_bytes parts tail ≡ built_bytes parts (raws ++ raws_of bytes)

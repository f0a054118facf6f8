-- What two index files are as one, or why they are not.
use Rattle.std.specs.Prelude.{◌≡◌, ℕ, List, ◌++◌, Some, ◌⊎◌}
use Rattle.track_types.specs.declared.parts.Parts.{Parts}
use Rattle.track_types.specs.declared.raw_row.RawRow.{RawRow}
use Rattle.gridding.specs.ChartOf.{chart_of, chart_rows}
use Rattle.chart_parts.specs.PartsOf.{parts_of}
use Rattle.index_file.specs.File.{file_bytes}
use Rattle.index_merge.specs.Union.{union_of}
use Rattle.index_merge.specs.MergeFault.{merge_fault}
use Rattle.index_merge.specs.declared.fault.MergeFault.{MergeFault}
use Rattle.index_merge.specs.declared.fault.MergeFault.TheVariants as fault
use Rattle.snapshots.specs.Parts.{chart_in}
use Rattle.gract_top.specs.declared.outcome.Outcome.{Outcome}
use Rattle.gract_top.specs.declared.outcome.Outcome.TheVariants as outcome

-- the outcome of two indexes that have no union
abbrev pub merge_outcome : MergeFault → Outcome
merge_outcome (fault.Settings setting left right) = outcome.Settings setting left right
merge_outcome (fault.Common object) = outcome.Common object
merge_outcome (fault.Limit kind value) = outcome.Limit kind value
merge_outcome fault.Empty = outcome.Empty
merge_outcome fault.Memory = outcome.Memory

-- the bytes of the index file of the union of what two indexes hold
abbrev pub union_bytes : Parts → Parts → List ℕ
union_bytes left right = file_bytes (parts_of (union_of (chart_in left) (chart_in right)))

-- Why two indexes were not merged: they have no union, for that fault, or out of memory.
abbrev pub NotMerged : Outcome → Parts → Parts → Type 0
NotMerged result left right =
    (result ≡ outcome.Memory)
    ⊎ ((found : MergeFault) × (merge_fault left right ≡ Some found) × (result ≡ merge_outcome found))

-- the bytes of the index of the chart of raw rows, by the settings of an index of these parts
abbrev pub built_bytes : Parts → List RawRow → List ℕ
built_bytes parts raws =
    file_bytes (parts_of (chart_of raws parts.frame.cell parts.frame.tick parts.frame.period))

-- Whatever raw rows two indexes were built from, by one CELL and one TICK: together they are saved as what is built from
-- all of these.
abbrev pub IsMergedAsBuilt : Parts → Parts → Type 0
IsMergedAsBuilt left right = (raws more : List RawRow)
    → (chart_in left).rows ≡ chart_rows raws left.frame.cell left.frame.tick
    → (chart_in right).rows ≡ chart_rows more left.frame.cell left.frame.tick
    → union_bytes left right ≡ built_bytes left (raws ++ more)

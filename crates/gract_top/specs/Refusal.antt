-- What the CSV file decides before a question is read.
use Rattle.std.specs.Prelude.{◌≡◌, ℕ, ◌+◌, Bool, true, false, nat_lt, if◌then◌else◌, List, [], ◌∷◌, length}
use Rattle.std.specs.Prelude.{Option, Some, None}
use Rattle.std.specs.Option.{option_or}
use Rattle.history.specs.Loads.{Load}
use Rattle.host_ports.specs.FileMap.{FileMap}
use Rattle.track_types.specs.Chart.{ChartView}
use Rattle.track_types.specs.Limits.{limit_of}
use Rattle.track_types.specs.declared.limit.LimitKind.{LimitKind}
use Rattle.track_types.specs.declared.limit.LimitKind.TheVariants as limit
use Rattle.track_types.specs.declared.raw_row.RawRow.{RawRow}
use Rattle.row_reader.specs.Rows.{csv_fault, raws_of}
use Rattle.row_reader.specs.declared.fault.RowsFault.{RowsFault}
use Rattle.row_reader.specs.declared.fault.RowsFault.TheVariants as rows
use Rattle.gridding.specs.ChartOf.{chart_of}
use Rattle.gridding.specs.GridLimit.{grid_limit}
use Rattle.gract_top.specs.Loading.{FileCame, IsLoaded}
use Rattle.gract_top.specs.declared.request.Settings.{Settings}
use Rattle.gract_top.specs.declared.outcome.Outcome.{Outcome}
use Rattle.gract_top.specs.declared.outcome.Outcome.TheVariants as outcome

-- the refusal of rows for a quantity of their chart
abbrev pub grid_refusal : Option (LimitKind × ℕ) → Option Outcome
grid_refusal (Some (kind, value)) = Some (outcome.Limit kind value)
grid_refusal None = None

-- the refusal of a file for its rows
abbrev pub rows_refusal : Option RowsFault → List RawRow → Settings → Option Outcome
rows_refusal (Some (rows.Row nth field fault)) raws settings = Some (outcome.Row nth field fault)
rows_refusal (Some (rows.Limit value)) raws settings = Some (outcome.Limit limit.Rows value)
rows_refusal (Some rows.Memory) raws settings = None
rows_refusal None [] settings = Some outcome.Empty
rows_refusal None (first ∷ others) settings =
    grid_refusal (grid_limit (first ∷ others) settings.cell settings.tick settings.period)

-- the refusal of a file for its length
abbrev pub length_refusal : LimitKind → List ℕ → Option Outcome
length_refusal kind bytes =
    if nat_lt (limit_of kind) (length bytes) then Some (outcome.Limit kind (limit_of kind + 1)) else None

-- The bytes that came of a file are refused for their length.
pub record IsLengthRefused (kind : LimitKind) (map : Option FileMap) (loads : List Load) (taken : ℕ) (name : List ℕ) (cause : Outcome) :
    Type 0 where
  pub bytes : List ℕ
  pub came : FileCame map loads taken name (limit_of kind) bytes
  pub refusal : length_refusal kind bytes ≡ Some cause

-- The refusal of a file, or none where it is accepted: it is too long, a record is no row or one row too many, there is
-- no data record, or a quantity of the chart passes its limit.
abbrev pub file_refusal : List ℕ → Settings → Option Outcome
file_refusal bytes settings =
    option_or (length_refusal limit.Csv bytes) (rows_refusal (csv_fault bytes) (raws_of bytes) settings)

-- The bytes that came of the CSV file are refused for this.
pub record IsRefused (map : Option FileMap) (loads : List Load) (taken : ℕ) (csv : List ℕ) (settings : Settings) (cause : Outcome) :
    Type 0 where
  pub bytes : List ℕ
  pub came : FileCame map loads taken csv (limit_of limit.Csv) bytes
  pub refusal : file_refusal bytes settings ≡ Some cause

-- The bytes that came of the CSV file are accepted, and have this chart.
pub record IsAccepted (map : Option FileMap) (loads : List Load) (taken : ℕ) (csv : List ℕ) (settings : Settings) (chart : ChartView) :
    Type 0 where
  pub bytes : List ℕ
  pub came : FileCame map loads taken csv (limit_of limit.Csv) bytes
  pub accepted : file_refusal bytes settings ≡ None
  pub gridded : chart ≡ chart_of (raws_of bytes) settings.cell settings.tick settings.period

-- the bytes that came of an index file are refused; its flaws are found when it is opened
abbrev pub IsIndexRefused : Option FileMap → List Load → ℕ → List ℕ → Outcome → Type 0
IsIndexRefused = IsLengthRefused limit.Index

-- the bytes that came of an index file are all of it, and may be opened
abbrev pub IsIndexLoaded : Option FileMap → List Load → ℕ → List ℕ → List ℕ → Type 0
IsIndexLoaded = IsLoaded limit.Index

-- an outcome that the bytes of the loaded file decide before anything is made of them
abbrev pub is_bytes_refusal : Outcome → Bool
is_bytes_refusal (outcome.Row nth field fault) = true
is_bytes_refusal outcome.Empty = true
is_bytes_refusal (outcome.Limit limit.Questions value) = false
is_bytes_refusal (outcome.Limit kind value) = true
is_bytes_refusal other = false

-- an outcome that comes before there is a chart or bytes to open
abbrev pub is_early : Outcome → Bool
is_early (outcome.Words place) = true
is_early outcome.LoadFailed = true
is_early other = is_bytes_refusal other

-- an outcome that comes after that; out of memory a call may be at any time
abbrev pub is_late : Outcome → Bool
is_late outcome.Done = true
is_late (outcome.Flaw flaw) = true
is_late (outcome.Settings setting left right) = true
is_late (outcome.Common object) = true
is_late outcome.SaveFailed = true
is_late outcome.ListenFailed = true
is_late outcome.SayFailed = true
is_late (outcome.Limit limit.Questions value) = true
is_late other = false

-- Why a stage of a command ended at a file, or that it went on from it.
use Rattle.std.specs.Prelude.{◌≡◌, ◌≢◌, ℕ, ◌+◌, ◌<◌, ◌≤◌, ⊤, true, false, List, length, Option}
use Rattle.history.specs.Loads.{Load}
use Rattle.host_ports.specs.FileMap.{FileMap, IsMissing}
use Rattle.host_ports.specs.FilesState.{FilesState}
use Rattle.host_ports.specs.NumberedCalls.{one_more}
use Rattle.track_types.specs.Chart.{ChartView}
use Rattle.track_types.specs.Limits.{limit_of}
use Rattle.track_types.specs.declared.limit.LimitKind.{LimitKind}
use Rattle.track_types.specs.declared.limit.LimitKind.TheVariants as limit
use Rattle.track_types.specs.declared.limit.TheConstants.{MAX_INDEX}
use Rattle.chart_parts.specs.PartsOf.{parts_of}
use Rattle.track_index.specs.Opening.{IsFile}
use Rattle.gract_top.specs.Beginning.{EndsLoading, NotLoaded, SavesNothing}
use Rattle.gract_top.specs.Loading.{BeginsFile}
use Rattle.gract_top.specs.Refusal.{IsAccepted, IsIndexLoaded, IsLengthRefused, IsRefused, is_bytes_refusal, is_late}
use Rattle.gract_top.specs.TailOpening.{IsTail}
use Rattle.gract_top.specs.declared.fault.LoadFault.{LoadFault}
use Rattle.gract_top.specs.declared.fault.LoadFault.TheVariants as load
use Rattle.gract_top.specs.declared.outcome.Outcome.{Outcome}
use Rattle.gract_top.specs.declared.outcome.Outcome.TheVariants as outcome
use Rattle.gract_top.specs.declared.request.Settings.{Settings}

-- What a fault of loading says of the bytes that came: one more than the limit, where it is for their length.
abbrev pub IsLoadFault : LimitKind → Option FileMap → List Load → ℕ → List ℕ → LoadFault → Type 0
IsLoadFault kind map loads taken name load.Failed = ⊤
IsLoadFault kind map loads taken name (load.Long value) =
    (value ≡ limit_of kind + 1) × (taken ≡ value)
    × IsLengthRefused kind map loads taken name (outcome.Limit kind value)
IsLoadFault kind map loads taken name load.Memory = ⊤

-- A file was begun and no other, and no device failed; nothing was saved.
pub record LoadsFile (name : List ℕ) (kind : LimitKind) (before now : FilesState) : Type 0 where
  pub there : IsMissing before.map name → ⊥
  pub taken : now.taken ≤ limit_of kind + 1
  pub begins : now.begins ≡ one_more before.begins
  pub loads : BeginsFile name before.loads now.loads
  pub unsaved : SavesNothing before now
  pub load_faults : now.load_faults ≡ before.load_faults
  pub save_faults : now.save_faults ≡ before.save_faults

-- The CSV file of that name was loaded and accepted, and has this chart.
pub record LoadsChart (csv : List ℕ) (settings : Settings) (chart : ChartView) (before now : FilesState) : Type 0 where
  pub accepted : IsAccepted before.map now.loads now.taken csv settings chart
  pub file : LoadsFile csv limit.Csv before now

-- The CSV file of that name was loaded and accepted, and these are the bytes of the index of its chart.
pub record WritesChart (csv : List ℕ) (settings : Settings) (bytes : List ℕ) (before now : FilesState) : Type 0 where
  pub chart : ChartView
  pub loads : LoadsChart csv settings chart before now
  pub file : IsFile bytes (parts_of chart)
  pub short : length bytes < MAX_INDEX

-- The index file of that name was loaded, and these are its bytes.
pub record LoadsIndex (name bytes : List ℕ) (before now : FilesState) : Type 0 where
  pub loaded : IsIndexLoaded before.map now.loads now.taken name bytes
  pub file : LoadsFile name limit.Index before now

-- What an outcome says of the file at which a call ended: `refused` is why its bytes are refused. Nothing was saved.
pub record StopsAtFile (result : Outcome) (name : List ℕ) (kind : LimitKind) (refused : Type 0) (before now : FilesState) :
    Type 0 where
  pub loading : EndsLoading result name kind before now
  pub early : is_late result ≡ false
  pub for_bytes : is_bytes_refusal result ≡ true → refused
  pub unsaved : SavesNothing before now
  pub load_faults : before.load_faults ≤ now.load_faults
  pub load_untouched : result ≢ outcome.LoadFailed → now.load_faults ≡ before.load_faults
  pub save_faults : now.save_faults ≡ before.save_faults

-- A call ended at the CSV file of that name, which gave no chart.
abbrev pub StopsAtChart : Outcome → List ℕ → Settings → FilesState → FilesState → Type 0
StopsAtChart result csv settings before now =
    StopsAtFile result csv limit.Csv (IsRefused before.map now.loads now.taken csv settings result) before now

-- A call ended at the index file of that name, which was not loaded.
pub record StopsLoading (result : Outcome) (name : List ℕ) (before now : FilesState) : Type 0 where
  pub stops : StopsAtFile result name limit.Index
      (IsLengthRefused limit.Index before.map now.loads now.taken name result) before now
  pub cause : NotLoaded result limit.Index name before now

-- The CSV file of that name was loaded, and it gave this tail.
pub record LoadsTail (csv : List ℕ) (settings : Settings) (tail : Option ChartView) (before now : FilesState) : Type 0 where
  pub is_tail : IsTail before.map now.loads now.taken csv settings tail
  pub file : LoadsFile csv limit.Csv before now

-- A call ended at the CSV file of that name, which gave no tail, though not for having no data row.
pub record StopsWithoutTail (result : Outcome) (csv : List ℕ) (settings : Settings) (before now : FilesState) : Type 0 where
  pub stops : StopsAtChart result csv settings before now
  pub some : result ≢ outcome.Empty

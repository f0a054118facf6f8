-- An index file that is opened, and then a CSV file of later rows, its tail, that is gridded as the rows of the index were.
use Rattle.std.specs.Prelude.{◌≡◌, ◌≢◌, ℕ, ◌+◌, ◌≤◌, true, false, List, Option, Some, None, ◌⊎◌}
use Rattle.history.specs.Loads.{Load}
use Rattle.host_ports.specs.FileMap.{FileMap}
use Rattle.host_ports.specs.NumberedCalls.{one_more}
use Rattle.track_types.specs.Chart.{ChartView}
use Rattle.track_types.specs.Limits.{limit_of}
use Rattle.track_types.specs.declared.limit.LimitKind.TheVariants as limit
use Rattle.track_types.specs.declared.parts.Parts.{Parts}
use Rattle.gract_top.specs.Beginning.{EndsLoading, OpensFile, Progress, SavesNothing, StopsAtIndex}
use Rattle.gract_top.specs.Loading.{BeginsFile}
use Rattle.gract_top.specs.Refusal.{IsAccepted, IsRefused, is_late, is_bytes_refusal}
use Rattle.gract_top.specs.Request.{settings_of}
use Rattle.gract_top.specs.declared.outcome.Outcome.{Outcome}
use Rattle.gract_top.specs.declared.outcome.Outcome.TheVariants as outcome
use Rattle.gract_top.specs.declared.request.Settings.{Settings}

-- the settings by which the rows of an index were gridded, which are those of its tail
abbrev pub settings_in : Parts → Settings
settings_in parts = settings_of parts.frame.cell parts.frame.tick parts.frame.period

-- the bytes that came of a CSV file are accepted and have this chart, or none: no data row is among them
abbrev pub IsTail : Option FileMap → List Load → ℕ → List ℕ → Settings → Option ChartView → Type 0
IsTail map loads taken csv settings (Some chart) = IsAccepted map loads taken csv settings chart
IsTail map loads taken csv settings None = IsRefused map loads taken csv settings outcome.Empty

-- Why a CSV file gave no tail: it was not loaded, or its bytes are refused, but not for having no data row; or out of
-- memory.
pub record HasNoTail (result : Outcome) (map : Option FileMap) (loads : List Load) (taken : ℕ) (csv : List ℕ) (settings : Settings) :
    Type 0 where
  pub early : is_late result ≡ false
  pub some : result ≢ outcome.Empty
  pub refused : is_bytes_refusal result ≡ true → IsRefused map loads taken csv settings result

-- A call ended at the tail's file, which gave none: it was begun and no other, nothing was saved, and nothing more was
-- read.
pub record StopsAtTail (result : Outcome) (parts : Parts) (csv : List ℕ) (before now : Progress) : Type 0 where
  pub loading : EndsLoading result csv limit.Csv before.files now.files
  pub none : HasNoTail result before.files.map now.files.loads now.files.taken csv (settings_in parts)
  pub unsaved : SavesNothing before.files now.files
  pub steps : now.steps ≡ before.steps

-- The tail's file was begun and no other, and it gave this tail. No device failed, nothing was saved, and nothing more
-- was read.
pub record GridsTail (parts : Parts) (csv : List ℕ) (tail : Option ChartView) (before now : Progress) : Type 0 where
  pub is_tail : IsTail before.files.map now.files.loads now.files.taken csv (settings_in parts) tail
  pub taken : now.files.taken ≤ limit_of limit.Csv + 1
  pub begins : now.files.begins ≡ one_more before.files.begins
  pub loads : BeginsFile csv before.files.loads now.files.loads
  pub unsaved : SavesNothing before.files now.files
  pub load_faults : now.files.load_faults ≡ before.files.load_faults
  pub save_faults : now.files.save_faults ≡ before.files.save_faults
  pub steps : now.steps ≡ before.steps

-- A call ended at the index file, or at the tail's, which was begun once the index was open.
abbrev pub StopsAtEither : Outcome → List ℕ → List ℕ → Progress → Progress → Type 0
StopsAtEither result index csv before now =
    StopsAtIndex result index before now
    ⊎ ((parts : Parts) × (between : Progress) × OpensFile index parts before between × StopsAtTail result parts csv between now)

-- The index file was opened as these parts before any other was begun. Then the tail's was begun, and no other; it gave
-- this tail.
pub record OpensTailed (index csv : List ℕ) (parts : Parts) (tail : Option ChartView) (before now : Progress) :
    Type 0 where
  pub between : Progress
  pub opens : OpensFile index parts before between
  pub grids : GridsTail parts csv tail between now

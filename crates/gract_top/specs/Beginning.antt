-- What an outcome says of the files that a call begins, one after another.
use Rattle.std.specs.Prelude.{◌≡◌, ℕ, ◌+◌, ◌≤◌, ⊤, List, ◌⊎◌, Some}
use Rattle.host_ports.specs.FileMap.{IsMissing}
use Rattle.host_ports.specs.FilesState.{FilesState}
use Rattle.host_ports.specs.Faults.{Rose}
use Rattle.host_ports.specs.NumberedCalls.{one_more}
use Rattle.track_types.specs.Limits.{limit_of}
use Rattle.track_types.specs.declared.flaw.Flaw.{Flaw}
use Rattle.track_types.specs.declared.limit.LimitKind.{LimitKind}
use Rattle.track_types.specs.declared.limit.LimitKind.TheVariants as limit
use Rattle.track_types.specs.declared.parts.Parts.{Parts}
use Rattle.track_index.specs.Opening.{bytes_cost, first_flaw, IsFile}
use Rattle.gract_top.specs.Loading.{BeginsFile}
use Rattle.gract_top.specs.Refusal.{IsIndexLoaded, IsLengthRefused}
use Rattle.gract_top.specs.declared.outcome.Outcome.{Outcome}
use Rattle.gract_top.specs.declared.outcome.Outcome.TheVariants as outcome

-- Nothing was saved.
pub record SavesNothing (before now : FilesState) : Type 0 where
  pub map : now.map ≡ before.map
  pub saves : now.saves ≡ before.saves
  pub saved : now.saved ≡ before.saved

-- What an outcome says of the file that a call begins, whose length has a limit: no other file is begun.
pub record BeginsOne (result : Outcome) (name : List ℕ) (kind : LimitKind) (before now : FilesState) : Type 0 where
  -- the file was not loaded: its device failed, or there is none
  pub load_failed : result ≡ outcome.LoadFailed →
      Rose before.load_faults now.load_faults ⊎ IsMissing before.map name
  pub missing : IsMissing before.map name → result ≡ outcome.LoadFailed
  -- at most one byte of the file beyond its limit is asked for
  pub taken : now.taken ≤ limit_of kind + 1
  pub begins : now.begins ≡ one_more before.begins
  pub loads : BeginsFile name before.loads now.loads

-- What an outcome says of the one file that a call begins, where the length of that file is all that has this limit.
pub record EndsLoading (result : Outcome) (name : List ℕ) (kind : LimitKind) (before now : FilesState) : Type 0 where
  pub one : BeginsOne result name kind before now
  pub too_long : (value : ℕ) → result ≡ outcome.Limit kind value →
      (value ≡ limit_of kind + 1) × (now.taken ≡ value)

-- Why a file was not loaded: its device, its name or its length, or out of memory.
abbrev pub NotLoaded : Outcome → LimitKind → List ℕ → FilesState → FilesState → Type 0
NotLoaded outcome.LoadFailed kind name before now = ⊤
NotLoaded outcome.Memory kind name before now = ⊤
NotLoaded other kind name before now = IsLengthRefused kind before.map now.loads now.taken name other

-- Why the bytes of a file were not opened: out of memory, or for their first flaw.
abbrev pub NotOpened : Outcome → List ℕ → Type 0
NotOpened result bytes =
    (result ≡ outcome.Memory) ⊎ ((flaw : Flaw) × (first_flaw bytes ≡ Some flaw) × (result ≡ outcome.Flaw flaw))

-- How far a call came: what is known of the files, and how many reads were counted.
pub record Progress : Type 0 where
  pub files : FilesState
  pub steps : ℕ

-- what is known of the files, and the reads, put together
abbrev pub progress : FilesState → ℕ → Progress
progress files steps = record { files = files; steps = steps }

-- All of an index file was loaded, but its bytes were not opened.
pub record StopsUnopened (result : Outcome) (name : List ℕ) (before now : Progress) : Type 0 where
  pub bytes : List ℕ
  pub loaded : IsIndexLoaded before.files.map now.files.loads now.files.taken name bytes
  pub unopened : NotOpened result bytes
  pub cost : now.steps ≤ before.steps + bytes_cost bytes

-- A call ended at the index file of that name, which was not loaded, or not opened: no other file was begun, and nothing
-- was saved.
pub record StopsAtIndex (result : Outcome) (name : List ℕ) (before now : Progress) : Type 0 where
  pub one : BeginsOne result name limit.Index before.files now.files
  pub unsaved : SavesNothing before.files now.files
  pub ended : (NotLoaded result limit.Index name before.files now.files × (now.steps ≡ before.steps))
      ⊎ StopsUnopened result name before now

-- The index file of that name was begun and no other; it was loaded, and opened as these parts within the cost of that.
-- No device failed, and nothing was saved.
pub record OpensFile (name : List ℕ) (parts : Parts) (before now : Progress) : Type 0 where
  pub bytes : List ℕ
  pub loaded : IsIndexLoaded before.files.map now.files.loads now.files.taken name bytes
  pub file : IsFile bytes parts
  pub cost : now.steps ≤ before.steps + bytes_cost bytes
  pub begins : now.files.begins ≡ one_more before.files.begins
  pub loads : BeginsFile name before.files.loads now.files.loads
  pub unsaved : SavesNothing before.files now.files
  pub load_faults : now.files.load_faults ≡ before.files.load_faults
  pub save_faults : now.files.save_faults ≡ before.files.save_faults

-- What an outcome says of an index file that a call begins before it begins another or saves anything: it ended there,
-- or it opened the file, and ended so from where it stood then.
abbrev pub BeginsFirst : Outcome → List ℕ → Progress → Progress → (Parts → Progress → Type 0) → Type 0
BeginsFirst result name before now EndsBehind =
    StopsAtIndex result name before now
    ⊎ ((parts : Parts) × (between : Progress) × OpensFile name parts before between × EndsBehind parts between)

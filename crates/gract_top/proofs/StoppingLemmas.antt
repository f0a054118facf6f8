-- What is known of the files where one was loaded, and where a call ended at one.
use Rattle.std.proofs.Common.{◌≡◌, ◌≢◌, ℕ, ◌+◌, ◌≤◌, List, Result, Ok, Err, arith}
use Rattle.host_ports.specs.FilesState.{FilesState}
use Rattle.host_ports.specs.Meanings.{files_at}
use Rattle.host_ports.specs.declared.files.Files.{Ghosts as OfFiles}
use Rattle.track_types.specs.Limits.{limit_of}
use Rattle.track_types.specs.declared.limit.LimitKind.{LimitKind}
use Rattle.track_types.specs.declared.limit.LimitKind.TheVariants as limit
use Rattle.row_reader.specs.Rows.{IsRowsFault}
use Rattle.row_reader.specs.declared.fault.RowsFault.{RowsFault}
use Rattle.gract_top.specs.Counting.{CountsFiles}
use Rattle.gract_top.specs.Faults.{rows_outcome}
use Rattle.gract_top.specs.Loading.{IsLoaded, LoadsOnly}
use Rattle.gract_top.specs.Stopping.{LoadsFile, StopsAtChart, StopsAtFile}
use Rattle.gract_top.specs.declared.fault.LoadFault.{LoadFault}
use Rattle.gract_top.specs.declared.fault.LoadFault.TheVariants as load
use Rattle.gract_top.specs.declared.outcome.Outcome.{Outcome}
use Rattle.gract_top.specs.declared.outcome.Outcome.TheVariants as outcome
use Rattle.gract_top.specs.declared.request.Settings.{Settings}

module _ {F : Type 0} (f : OfFiles F) (before now : F) (name : List ℕ) (kind : LimitKind)
    (loaded : Result (Unit {0}) LoadFault) (loads : LoadsOnly f before now name (loaded ≡ Err load.Failed))
    (taken : f.taken now ≤ limit_of kind + 1)
  where
    -- a file was loaded
    pub LoadsFile-loaded : loaded ≡ Ok tt → LoadsFile name kind (files_at f before) (files_at f now)
    LoadsFile-loaded is = grind (arith)

-- or for its rows
pub StopsAtChart-rows : (csv : List ℕ) (settings : Settings) (before now : FilesState) (bytes : List ℕ) →
    LoadsFile csv limit.Csv before now → IsLoaded limit.Csv before.map now.loads now.taken csv bytes →
    (cause : RowsFault) → IsRowsFault bytes cause → StopsAtChart (rows_outcome cause) csv settings before now
StopsAtChart-rows csv settings before now bytes loads loaded cause is = grind (arith)

-- the counts of a call are those since a moment until which none changed
pub CountsFiles-after : (result : Outcome) (before between now : FilesState) → between.load_faults ≡ before.load_faults →
    between.save_faults ≡ before.save_faults → CountsFiles result between now → CountsFiles result before now
CountsFiles-after result before between now loads saves counts = grind (arith)

-- where nothing was to be saved and no count changed
pub CountsFiles-same : (result : Outcome) (before now : FilesState) → result ≢ outcome.SaveFailed →
    now.load_faults ≡ before.load_faults → now.save_faults ≡ before.save_faults → CountsFiles result before now
CountsFiles-same result before now unsaved loads saves = record {
  load_faults = omega (arith, loads);
  load_untouched = λ _. loads;
  save_cause = λ is. absurd (unsaved is);
  save_untouched = λ _. saves;
}

-- a call that ended at a file counts what loading that did
pub CountsFiles-stopped : (result : Outcome) (name : List ℕ) (kind : LimitKind) (refused : Type 0) (before now : FilesState) →
    StopsAtFile result name kind refused before now → CountsFiles result before now
CountsFiles-stopped result name kind refused before now stops = grind (arith)

-- How a call ends once its file was loaded.
use Rattle.std.proofs.Common.{◌≡◌, ◌≢◌, ℕ, ◌<◌, true, false, List, length, arith}
use Rattle.track_types.specs.declared.limit.TheConstants.{MAX_INDEX}
use Rattle.host_ports.specs.FilesState.{FilesState}
use Rattle.track_types.specs.Chart.{ChartView}
use Rattle.track_types.specs.declared.limit.LimitKind.TheVariants as limit
use Rattle.track_types.specs.declared.parts.Parts.{Parts}
use Rattle.chart_parts.specs.PartsOf.{parts_of}
use Rattle.track_index.specs.Opening.{IsFile}
use Rattle.gract_top.specs.Outcome.{EndsOpened, EndsOver}
use Rattle.gract_top.specs.Beginning.{SavesNothing}
use Rattle.gract_top.specs.Counting.{CountsFiles}
use Rattle.gract_top.specs.Ends.{AnswersChart, EndsOnce, OutsideView, Saved}
use Rattle.gract_top.specs.Refusal.{IsAccepted, is_early, is_bytes_refusal}
use Rattle.gract_top.specs.Stopping.{LoadsFile}
use Rattle.gract_top.specs.declared.outcome.Outcome.{Outcome}
use Rattle.gract_top.specs.declared.outcome.Outcome.TheVariants as outcome
use Rattle.gract_top.specs.declared.request.Settings.{Settings}

-- what the file's bytes decide comes before a question
pub is_early-refusal : (result : Outcome) → is_bytes_refusal result ≡ true → is_early result ≡ true
is_early-refusal result refusal = grind (arith)

module _ (result : Outcome) (csv : List ℕ) (settings : Settings) (untouched : Type 0) (before now : OutsideView) where
  -- what the files gave for the bytes of a chart's index was opened and asked
  pub AnswersChart-passed : (chart : ChartView) (bytes passed : List ℕ) →
      IsAccepted before.files.map now.files.loads now.files.taken csv settings chart → IsFile bytes (parts_of chart) →
      length bytes < MAX_INDEX → passed ≡ before.given bytes →
      EndsOpened result passed untouched before.talk now.talk →
      ((parts : Parts) → IsFile passed parts → EndsOver result passed parts untouched before.talk now.talk) →
      AnswersChart result csv settings untouched before now
  AnswersChart-passed chart bytes passed accepted file short is ended decides = grind (arith)

  -- it ended after the file was accepted
  pub EndsOnce-late : LoadsFile csv limit.Csv before.files now.files → CountsFiles result before.files now.files →
      is_early result ≡ false → AnswersChart result csv settings untouched before now → EndsOnce result csv settings untouched before now
  EndsOnce-late loads counts later answers = grind (arith)

module _ (index bytes : List ℕ) (before now : FilesState) where
  -- a save that does not fail is done
  pub Saved-done : (result : Outcome) → Saved result index bytes before now → result ≢ outcome.SaveFailed →
      result ≡ outcome.Done
  Saved-done result saved unsaved = grind (arith)

-- what a save left of files that had only been loaded from before
pub Saved-loaded : (result : Outcome) (index bytes spelled : List ℕ) (before loaded now : FilesState) →
    Saved result index bytes loaded now → SavesNothing before loaded → bytes ≡ spelled →
    Saved result index spelled before now
Saved-loaded result index bytes spelled before loaded now saved unsaved is = grind (arith)

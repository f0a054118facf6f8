-- How a call ends, by its command: what came of the file that it loads, what was saved and what was answered, and which
-- count of files changed.
use Rattle.std.specs.Prelude.{◌≡◌, ◌≢◌, ℕ, ◌+◌, ◌*◌, ◌≤◌, ⊤, true, List, ◌∷◌, length, Option, None, ◌⊎◌}
use Rattle.host_ports.specs.FileMap.{IsSaved, KeepsOthers}
use Rattle.host_ports.specs.FilesState.{FilesState, IsPlain}
use Rattle.host_ports.specs.Meanings.{files_at}
use Rattle.host_ports.specs.NumberedCalls.{one_more}
use Rattle.host_ports.specs.declared.files.Files.{Ghosts as OfFiles}
use Rattle.host_ports.specs.declared.sink.Sink.{Ghosts as OfSink}
use Rattle.host_ports.specs.declared.source.Source.{Ghosts as OfSource}
use Rattle.track_types.specs.Chart.{ChartView}
use Rattle.track_types.specs.Limits.{limit_of}
use Rattle.track_types.specs.declared.limit.LimitKind.TheVariants as limit
use Rattle.track_types.specs.declared.parts.Parts.{Parts}
use Rattle.chart_parts.specs.PartsOf.{parts_of}
use Rattle.index_file.specs.File.{file_bytes}
use Rattle.track_index.specs.Opening.{bytes_cost}
use Rattle.index_merge.specs.Cost.{union_cost}
use Rattle.index_merge.specs.Extension.{extension_cost, extension_fault}
use Rattle.index_merge.specs.MergeFault.{merge_fault}
use Rattle.path_union.specs.Union.{rows_of_tail}
use Rattle.gract_top.specs.Counting.{CountsFiles}
use Rattle.gract_top.specs.Beginning.{BeginsFirst, BeginsOne, EndsLoading, NotLoaded, Progress, SavesNothing, progress}
use Rattle.gract_top.specs.Extending.{IsExtendedAsBuilt, NotExtended, extension_bytes}
use Rattle.gract_top.specs.Merging.{IsMergedAsBuilt, NotMerged, union_bytes}
use Rattle.gract_top.specs.Outcome.{EndsOpened, EndsOver, Talk, talk_of}
use Rattle.gract_top.specs.Refusal.{IsAccepted, IsIndexLoaded, IsIndexRefused, IsRefused, is_early}
use Rattle.gract_top.specs.Refusal.{is_late, is_bytes_refusal}
use Rattle.gract_top.specs.Sampling.{EndsSample, speech}
use Rattle.gract_top.specs.TailAsking.{EndsAskTail}
use Rattle.gract_top.specs.TailOpening.{OpensTailed, StopsAtEither}
use Rattle.gract_top.specs.Upgrading.{IsUpgrade, NotUpgraded}
use Rattle.gract_top.specs.declared.outcome.Outcome.{Outcome}
use Rattle.gract_top.specs.declared.outcome.Outcome.TheVariants as outcome
use Rattle.gract_top.specs.declared.request.Settings.{Settings}
use Rattle.gract_top.specs.declared.request.Request.{Request}
use Rattle.gract_top.specs.declared.request.Request.TheVariants as request

-- What is known of the outside at a moment: the files, what their next pass gives, and source and sink.
pub record OutsideView : Type 0 where
  pub files : FilesState
  pub given : List ℕ → List ℕ
  pub talk : Talk

-- what is known of these files, this source and this sink, by the meanings of their traits
abbrev pub moment_of : {F S K : Type 0} → OfFiles F → OfSource S → OfSink K → F → S → K → ℕ → OutsideView
moment_of f s k files source sink steps =
    record { files = files_at f files; given = f.given files; talk = talk_of s k source sink steps }

-- the bytes that the index of a chart is written as
abbrev pub written : ChartView → List ℕ
written chart = file_bytes (parts_of chart)

-- Source and sink are as they were, and nothing was read of an index.
abbrev pub StaysSilent : Type 0 → OutsideView → OutsideView → Type 0
StaysSilent untouched before now = untouched × (now.talk.steps ≡ before.talk.steps)

-- The CSV file was accepted, and what the files gave for the bytes of its index was opened and asked. Plain files give
-- these very bytes, and the lines are answered over the chart's own parts.
pub record AnswersChart (result : Outcome) (csv : List ℕ) (settings : Settings) (untouched : Type 0)
    (before now : OutsideView) : Type 0 where
  pub chart : ChartView
  pub accepted : IsAccepted before.files.map now.files.loads now.files.taken csv settings chart
  pub ended : EndsOpened result (before.given (written chart)) untouched before.talk now.talk
  pub plain : IsPlain before.given → EndsOver result (written chart) (parts_of chart) untouched before.talk now.talk

-- How a call of `once` ends.
pub record EndsOnce (result : Outcome) (csv : List ℕ) (settings : Settings) (untouched : Type 0)
    (before now : OutsideView) : Type 0 where
  pub counts : CountsFiles result before.files now.files
  pub loading : EndsLoading result csv limit.Csv before.files now.files
  pub unsaved : SavesNothing before.files now.files
  -- the file was refused for its bytes
  pub refused : is_bytes_refusal result ≡ true → IsRefused before.files.map now.files.loads now.files.taken csv settings result
  pub early : is_early result ≡ true → StaysSilent untouched before now
  -- the file was accepted
  pub late : is_late result ≡ true → AnswersChart result csv settings untouched before now
  -- the call was out of memory before there were bytes to pass, or after that
  pub memory : result ≡ outcome.Memory →
      StaysSilent untouched before now ⊎ AnswersChart result csv settings untouched before now

-- What a save left: that name holds the bytes, which were handed over, or anything after a failure. The other names hold
-- what they held, and nothing else was handed over.
abbrev pub Saved : Outcome → List ℕ → List ℕ → FilesState → FilesState → Type 0
Saved outcome.Done index bytes before now =
    IsSaved now.map index bytes × KeepsOthers before.map now.map index × (now.saves ≡ one_more before.saves)
    × (now.saved ≡ (index, bytes) ∷ before.saved)
Saved outcome.SaveFailed index bytes before now =
    KeepsOthers before.map now.map index × (now.saves ≡ one_more before.saves) × (now.saved ≡ before.saved)
Saved other index bytes before now = ⊥

-- The CSV file was accepted, and the bytes of its index were saved, or the save failed.
pub record SavesChart (result : Outcome) (csv index : List ℕ) (settings : Settings) (before now : FilesState) :
    Type 0 where
  pub chart : ChartView
  pub accepted : IsAccepted before.map now.loads now.taken csv settings chart
  pub saved : Saved result index (written chart) before now

-- How a call of `build` ends.
pub record EndsBuild (result : Outcome) (csv index : List ℕ) (settings : Settings) (before now : FilesState) :
    Type 0 where
  pub counts : CountsFiles result before now
  pub loading : EndsLoading result csv limit.Csv before now
  -- the file was refused for its bytes
  pub refused : is_bytes_refusal result ≡ true → IsRefused before.map now.loads now.taken csv settings result
  -- the file was accepted
  pub late : is_late result ≡ true → SavesChart result csv index settings before now
  pub unsaved : result ≢ outcome.Done → result ≢ outcome.SaveFailed → SavesNothing before now

-- The index file was loaded, opened and asked.
pub record AnswersFile (result : Outcome) (index : List ℕ) (untouched : Type 0) (before now : OutsideView) : Type 0 where
  pub bytes : List ℕ
  pub loaded : IsIndexLoaded before.files.map now.files.loads now.files.taken index bytes
  pub ended : EndsOpened result bytes untouched before.talk now.talk

-- How a call of `ask` ends.
pub record EndsAsk (result : Outcome) (index : List ℕ) (untouched : Type 0) (before now : OutsideView) : Type 0 where
  pub counts : CountsFiles result before.files now.files
  pub loading : EndsLoading result index limit.Index before.files now.files
  pub unsaved : SavesNothing before.files now.files
  pub given : now.given ≡ before.given
  -- the file was refused for its length
  pub refused : is_bytes_refusal result ≡ true → IsIndexRefused before.files.map now.files.loads now.files.taken index result
  pub early : is_early result ≡ true → StaysSilent untouched before now
  -- the file was loaded
  pub late : is_late result ≡ true → AnswersFile result index untouched before now
  -- the call was out of memory before the file was loaded, or after that
  pub memory : result ≡ outcome.Memory →
      StaysSilent untouched before now ⊎ AnswersFile result index untouched before now

-- The upgrade of bytes was saved, or the save failed.
pub record SavesUpgrade (result : Outcome) (bytes name : List ℕ) (before now : FilesState) : Type 0 where
  pub newest : List ℕ
  pub upgrade : IsUpgrade bytes newest
  pub short : length newest ≤ limit_of limit.Index
  pub saved : Saved result name newest before now

-- The index file was loaded, and its upgrade was saved or not, within the reads of two openings.
pub record UpgradesFile (result : Outcome) (index name : List ℕ) (before now : FilesState) (steps_before steps_now : ℕ) :
    Type 0 where
  pub bytes : List ℕ
  pub loaded : IsIndexLoaded before.map now.loads now.taken index bytes
  pub ended : (NotUpgraded result bytes × SavesNothing before now) ⊎ SavesUpgrade result bytes name before now
  pub cost : steps_now ≤ steps_before + 2 * bytes_cost bytes

-- How a call of `upgrade` ends.
pub record EndsUpgrade (result : Outcome) (index name : List ℕ) (before now : FilesState) (steps_before steps_now : ℕ) :
    Type 0 where
  pub counts : CountsFiles result before now
  pub loading : BeginsOne result index limit.Index before now
  pub ended : (NotLoaded result limit.Index index before now × SavesNothing before now × (steps_now ≡ steps_before))
      ⊎ UpgradesFile result index name before now steps_before steps_now

-- The union of what two indexes hold was saved, or the save failed.
pub record SavesUnion (result : Outcome) (left right : Parts) (name : List ℕ) (before now : FilesState) : Type 0 where
  pub merged : merge_fault left right ≡ None
  pub saved : Saved result name (union_bytes left right) before now

-- Two index files were opened as these parts, and their union was saved or not, within the reads of making it. No file
-- was begun after them, and none was saved before.
pub record MergesParts (result : Outcome) (left right : Parts) (name : List ℕ) (before : FilesState)
    (opened now : Progress) : Type 0 where
  pub ended : (NotMerged result left right × SavesNothing before now.files)
      ⊎ SavesUnion result left right name before now.files
  pub as_built : IsMergedAsBuilt left right
  pub cost : now.steps ≤ opened.steps + union_cost left right
  pub loads : now.files.loads ≡ opened.files.loads
  pub begins : now.files.begins ≡ opened.files.begins

-- How a call of `merge` ends: at the first file, else at the second, else over what both hold. The second file is begun
-- where the first one was opened.
pub record EndsMerge (result : Outcome) (left right name : List ℕ) (before now : Progress) : Type 0 where
  pub counts : CountsFiles result before.files now.files
  pub ended : BeginsFirst result left before now (λ first between.
      BeginsFirst result right between now (λ second opened.
      MergesParts result first second name before.files opened now))

-- What an index holds and a tail were saved as one, or the save failed.
pub record SavesExtension (result : Outcome) (parts : Parts) (tail : Option ChartView) (name : List ℕ)
    (before now : FilesState) : Type 0 where
  pub extended : extension_fault parts (rows_of_tail tail) ≡ None
  pub saved : Saved result name (extension_bytes parts tail) before now

-- An index file was opened as these parts, and then another gave this tail. Both were saved as one or not, within the
-- reads of making that. No file was begun after them, and none was saved before.
pub record ExtendsParts (result : Outcome) (index csv name : List ℕ) (before now : Progress) : Type 0 where
  pub parts : Parts
  pub tail : Option ChartView
  pub opened : Progress
  pub opens : OpensTailed index csv parts tail before opened
  pub ended : (NotExtended result parts tail × SavesNothing before.files now.files)
      ⊎ SavesExtension result parts tail name before.files now.files
  pub as_built : IsExtendedAsBuilt parts tail opens.between.files.map opened.files.loads opened.files.taken csv
  pub cost : now.steps ≤ opened.steps + extension_cost parts (rows_of_tail tail)
  pub loads : now.files.loads ≡ opened.files.loads
  pub begins : now.files.begins ≡ opened.files.begins
  pub taken : now.files.taken ≡ opened.files.taken

-- How a call of `extend` ends: at one of its files, or over both.
pub record EndsExtend (result : Outcome) (index csv name : List ℕ) (before now : Progress) : Type 0 where
  pub counts : CountsFiles result before.files now.files
  pub ended : (StopsAtEither result index csv before now × SavesNothing before.files now.files)
      ⊎ ExtendsParts result index csv name before now

-- How the call that a request asks for ends, where it is not refused. `unheard` says that the source is as it was, and
-- `unsaid` that the sink is.
abbrev pub Ends : Request → Outcome → Type 0 → Type 0 → OutsideView → OutsideView → Type 0
Ends (request.Once csv settings) result unheard unsaid before now =
    EndsOnce result csv.now settings (unheard × unsaid) before now
Ends (request.Build csv index settings) result unheard unsaid before now =
    EndsBuild result csv.now index.now settings before.files now.files
    × (StaysSilent (unheard × unsaid) before now × (now.given ≡ before.given))
Ends (request.Ask index) result unheard unsaid before now = EndsAsk result index.now (unheard × unsaid) before now
Ends (request.AskTail index tail) result unheard unsaid before now =
    EndsAskTail result index.now tail.now (unheard × unsaid) before.files now.files before.talk now.talk
    × (now.given ≡ before.given)
Ends (request.Sample settings) result unheard unsaid before now =
    unheard × EndsSample result settings unsaid before.files now.files before.given
    (speech before.talk.said before.talk.steps) (speech now.talk.said now.talk.steps)
Ends (request.Upgrade old new) result unheard unsaid before now =
    EndsUpgrade result old.now new.now before.files now.files before.talk.steps now.talk.steps
    × ((unheard × unsaid) × (now.given ≡ before.given))
Ends (request.Merge left right out) result unheard unsaid before now =
    EndsMerge result left.now right.now out.now (progress before.files before.talk.steps)
    (progress now.files now.talk.steps)
    × ((unheard × unsaid) × (now.given ≡ before.given))
Ends (request.Extend index tail out) result unheard unsaid before now =
    EndsExtend result index.now tail.now out.now (progress before.files before.talk.steps)
    (progress now.files now.talk.steps)
    × ((unheard × unsaid) × (now.given ≡ before.given))
Ends (request.Refused place) result unheard unsaid before now = ⊤

-- When a call does all that was asked of it, unless it is out of memory. This is said where files and source tell what they
-- hold, as those in memory do.
use Rattle.std.specs.Prelude.{◌≡◌, ℕ, ◌≤◌, List, length, Option, Some, None, ◌⊎◌}
use Rattle.host_ports.specs.FileMap.{FileMap, file_named}
use Rattle.host_ports.specs.FilesState.{IsPlain}
use Rattle.host_ports.specs.Faults.{Rose}
use Rattle.host_ports.specs.declared.files.Files.{Ghosts as OfFiles}
use Rattle.host_ports.specs.declared.sink.Sink.{Ghosts as OfSink}
use Rattle.host_ports.specs.declared.source.Source.{Ghosts as OfSource}
use Rattle.track_types.specs.Limits.{limit_of}
use Rattle.track_types.specs.declared.limit.LimitKind.TheVariants as limit
use Rattle.track_types.specs.declared.parts.Parts.{Parts}
use Rattle.track_index.specs.Opening.{IsFile}
use Rattle.gract_top.specs.Ends.{OutsideView}
use Rattle.gract_top.specs.Refusal.{file_refusal}
use Rattle.gract_top.specs.Sampling.{sample_refusal}
use Rattle.gract_top.specs.TailOpening.{settings_in}
use Rattle.index_merge.specs.Extension.{extension_fault}
use Rattle.index_merge.specs.MergeFault.{merge_fault}
use Rattle.gridding.specs.ChartOf.{chart_rows}
use Rattle.row_reader.specs.Rows.{raws_of}
use Rattle.gract_top.specs.declared.outcome.Outcome.TheVariants as outcome
use Rattle.gract_top.specs.declared.request.Request.{Request}
use Rattle.gract_top.specs.declared.request.Request.TheVariants as request
use Rattle.gract_top.specs.declared.request.Settings.{Settings}

-- The files are told, and that name holds a CSV file that is accepted.
pub record HasAccepted (map : Option FileMap) (csv : List ℕ) (settings : Settings) : Type 0 where
  pub files : FileMap
  pub told : map ≡ Some files
  pub bytes : List ℕ
  pub holds : file_named files csv ≡ Some bytes
  pub accepted : file_refusal bytes settings ≡ None

-- The files are told, and that name holds a CSV file that is accepted, or one without a data row.
pub record HasTail (map : Option FileMap) (csv : List ℕ) (settings : Settings) : Type 0 where
  pub files : FileMap
  pub told : map ≡ Some files
  pub bytes : List ℕ
  pub holds : file_named files csv ≡ Some bytes
  pub accepted : (file_refusal bytes settings ≡ None) ⊎ (file_refusal bytes settings ≡ Some outcome.Empty)

-- The files are told, and that name holds an index file that is not too long.
pub record HasIndex (map : Option FileMap) (index : List ℕ) : Type 0 where
  pub files : FileMap
  pub told : map ≡ Some files
  pub bytes : List ℕ
  pub holds : file_named files index ≡ Some bytes
  pub short : length bytes ≤ limit_of limit.Index
  pub parts : Parts
  pub file : IsFile bytes parts

-- The source tells the bytes of the questions, and these are not too many.
pub record HasQuestions (rest : Option (List ℕ)) : Type 0 where
  pub bytes : List ℕ
  pub told : rest ≡ Some bytes
  pub short : length bytes ≤ limit_of limit.Questions

-- What a request needs is there: a form, and the files that it loads. Where it asks questions, they are not too many.
-- Where it opens what it wrote, files give what they are handed. Where it merges, both indexes have a union. Where it
-- extends, the index has a chart with its tail.
abbrev pub IsReady : Request → OutsideView → Type 0
IsReady (request.Once csv settings) before =
    HasAccepted before.files.map csv.now settings × HasQuestions before.talk.rest × IsPlain before.given
IsReady (request.Build csv index settings) before = HasAccepted before.files.map csv.now settings
IsReady (request.Ask index) before = HasIndex before.files.map index.now × HasQuestions before.talk.rest
IsReady (request.AskTail index tail) before =
    (ready : HasIndex before.files.map index.now)
    × (HasTail before.files.map tail.now (settings_in ready.parts) × HasQuestions before.talk.rest)
IsReady (request.Sample settings) before = (sample_refusal settings ≡ None) × IsPlain before.given
IsReady (request.Upgrade old new) before = HasIndex before.files.map old.now
IsReady (request.Merge left right out) before =
    (first : HasIndex before.files.map left.now) × (second : HasIndex before.files.map right.now)
    × (merge_fault first.parts second.parts ≡ None)
IsReady (request.Extend index tail out) before =
    (ready : HasIndex before.files.map index.now) × (later : HasTail before.files.map tail.now (settings_in ready.parts))
    × (extension_fault ready.parts
    (chart_rows (raws_of later.bytes) ready.parts.frame.cell ready.parts.frame.tick) ≡ None)
IsReady (request.Refused place) before = ⊥

-- No count of faults rose, and none has reached the greatest number that it can reach.
pub record IsCalm {F S K : Type 0} (f : OfFiles F) (s : OfSource S) (k : OfSink K) (files_before files_now : F)
    (source_before source_now : S) (sink_before sink_now : K) : Type 0 where
  pub load : Rose (f.load_faults files_before) (f.load_faults files_now) → ⊥
  pub save : Rose (f.save_faults files_before) (f.save_faults files_now) → ⊥
  pub listen : Rose (s.faults source_before) (s.faults source_now) → ⊥
  pub say : Rose (k.faults sink_before) (k.faults sink_now) → ⊥

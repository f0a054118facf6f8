-- How a call of `sample` ends: with its refusal, or once there are bytes to open.
use Rattle.std.proofs.Common.{◌≡◌, ◌≢◌, ℕ, ◌+◌, ◌*◌, ◌<◌, ◌≤◌, false, List, [], length, None, arith}
use Rattle.std.proofs.Common.{Result, Ok, Err, OnOk, OnErr}
use Rattle.host_ports.specs.Counting.{SinkCounts}
use Rattle.host_ports.specs.Histories.{Gains}
use Rattle.host_ports.specs.declared.sink.Sink.{Ghosts as OfSink}
use Rattle.track_types.specs.declared.limit.TheConstants.{MAX_INDEX}
use Rattle.host_ports.specs.FilesState.{FilesState}
use Rattle.track_types.specs.declared.parts.Parts.{Parts}
use Rattle.track_types.specs.declared.raw_row.RawRow.{RawRow}
use Rattle.chart_parts.specs.PartsOf.{parts_of}
use Rattle.gridding.specs.GridLimit.{IsGridFault}
use Rattle.gridding.specs.declared.fault.GridFault.{GridFault}
use Rattle.sample_rows.specs.Sample.{sample_rows}
use Rattle.snapshots.specs.IndexCost.{open_cost}
use Rattle.snapshots.specs.Parts.{chart_in}
use Rattle.track_index.specs.Facts.{facts_of}
use Rattle.track_index.specs.Opening.{IsFile}
use Rattle.track_types.specs.Limits.{limit_of}
use Rattle.track_types.specs.declared.limit.LimitKind.TheVariants as limit
use Rattle.gract_top.specs.Cost.{question_cost}
use Rattle.gract_top.specs.Extending.{extension_outcome}
use Rattle.gract_top.specs.Faults.{ended, turn_outcome}
use Rattle.gract_top.specs.Refusal.{is_bytes_refusal}
use Rattle.gract_top.specs.Sampling.{EndsSample, EndsSummed, EndsSummedOver, NotSampled, SaysFront, Speech, SumsOver}
use Rattle.gract_top.specs.Sampling.{SumsSample, Told, sample_chart, sample_refusal}
use Rattle.gract_top.specs.Summary.{summary_cost, summary_of}
use Rattle.gract_top.specs.declared.outcome.Outcome.{Outcome}
use Rattle.gract_top.specs.declared.outcome.Outcome.TheVariants as outcome
use Rattle.gract_top.specs.declared.request.SampleSettings.{SampleSettings}
use Rattle.question_shell.specs.declared.turn_fault.TurnFault.{TurnFault}
use Rattle.question_shell.specs.declared.turn_fault.TurnFault.TheVariants as turn

-- what the end of a summary tells of its text
Told-said : (said : Result (Unit {0}) TurnFault) (text : List ℕ) (before now : List ℕ) → OnOk said (Gains before now text) →
    OnErr said (SaysFront before now text) → Told (ended turn_outcome said) text before now
Told-said (Ok done) text before now ok err = ok
Told-said (Err turn.Say) text before now ok err = err
Told-said (Err turn.Memory) text before now ok err = err

-- the sink's count is that of the outcome
pub SinkCounts-said : {K : Type 0} (k : OfSink K) (before now : K) (said : Result (Unit {0}) TurnFault) →
    SinkCounts k before now (said ≡ Err turn.Say) →
    SinkCounts k before now (ended turn_outcome said ≡ outcome.SayFailed)
SinkCounts-said k before now said counts = grind (arith)

module _ (said : Result (Unit {0}) TurnFault) (instants : ℕ) (before now : Speech) where
  -- the summary of an index that was opened was said, or a front of it
  pub SumsOver-opened : (asked index : Parts) (opened : ℕ) → asked ≡ index → opened ≤ before.steps + open_cost index →
      OnOk said (Gains before.said now.said (summary_of (chart_in asked) (facts_of asked) instants)) →
      OnErr said (SaysFront before.said now.said (summary_of (chart_in asked) (facts_of asked) instants)) →
      now.steps ≤ opened + summary_cost (question_cost asked) instants →
      SumsOver (ended turn_outcome said) index instants before now
  SumsOver-opened asked index opened same cost ok err reads =
      let text = summary_of (chart_in asked) (facts_of asked) instants in
      let told : Told (ended turn_outcome said) text before.said now.said = Told-said said text before.said now.said ok err in
      grind (arith)

-- what holds of parts holds of parts that are the same
pub SumsOver-same : (result : Outcome) (instants : ℕ) (before now : Speech) (index parts : Parts) → index ≡ parts →
    SumsOver result index instants before now → SumsOver result parts instants before now
SumsOver-same result instants before now index parts same sums = grind (arith)

module _ (result : Outcome) (settings : SampleSettings) (unsaid : Type 0) (before now : Speech) where
  -- what the files gave for the bytes of a sample's index was opened and summed up
  pub SumsSample-passed : (given : List ℕ → List ℕ) (bytes passed : List ℕ) → sample_refusal settings ≡ None →
      IsFile bytes (parts_of (sample_chart settings)) → length bytes < MAX_INDEX → passed ≡ given bytes →
      EndsSummed result passed settings.instants unsaid before now →
      ((parts : Parts) → IsFile passed parts → EndsSummedOver result passed parts settings.instants unsaid before now) →
      SumsSample result settings unsaid given before now
  SumsSample-passed given bytes passed accepted file short is ended decides = grind (arith)

-- rows that have no chart are the refusal of their sample, since there is a row of each object
pub NotSampled-grid : (settings : SampleSettings) (raws : List RawRow) →
    raws ≡ sample_rows settings.objects settings.instants settings.seed → raws ≢ [] →
    settings.objects * settings.instants ≤ limit_of limit.Rows → (cause : GridFault) →
    IsGridFault raws 1 1 settings.period cause → NotSampled (extension_outcome cause) settings
NotSampled-grid settings raws are some few cause is = grind (arith)

module _ (result : Outcome) (settings : SampleSettings) (unsaid : Type 0) (files_before files_now : FilesState)
    (given : List ℕ → List ℕ) (before now : Speech)
  where
    -- the call ended before there were bytes to pass
    pub EndsSample-early : NotSampled result settings → unsaid → now.steps ≡ before.steps → files_now ≡ files_before →
        EndsSample result settings unsaid files_before files_now given before now
    EndsSample-early unmade silent steps kept = grind (arith)

    -- the call ended after that
    pub EndsSample-late : is_bytes_refusal result ≡ false → result ≢ outcome.SaveFailed → files_now ≡ files_before →
        SumsSample result settings unsaid given before now →
        EndsSample result settings unsaid files_before files_now given before now
    EndsSample-late other unsaved kept sums = grind (arith)

    -- it listens to nothing
    pub EndsSample-unheard : EndsSample result settings unsaid files_before files_now given before now →
        result ≢ outcome.ListenFailed
    EndsSample-unheard ends is = grind (arith)

-- bytes that were opened are no refusal of a sample
pub EndsSummed-late : (result : Outcome) (bytes : List ℕ) (instants : ℕ) (unsaid : Type 0) (before now : Speech) →
    EndsSummed result bytes instants unsaid before now → is_bytes_refusal result ≡ false
EndsSummed-late result bytes instants unsaid before now ends = grind (arith)

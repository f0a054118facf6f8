-- How a call of `sample` ends.
use Rattle.std.specs.Prelude.{◌≡◌, ℕ, ◌+◌, ◌*◌, ◌≤◌, true, false, nat_lt, if◌then◌else◌, List, ◌++◌, Option, Some, None, ◌⊎◌}
use Rattle.host_ports.specs.Histories.{Gains}
use Rattle.host_ports.specs.FilesState.{FilesState, IsPlain}
use Rattle.track_types.specs.Chart.{ChartView}
use Rattle.track_types.specs.Limits.{limit_of}
use Rattle.track_types.specs.declared.limit.LimitKind.TheVariants as limit
use Rattle.track_types.specs.declared.parts.Parts.{Parts}
use Rattle.gridding.specs.ChartOf.{chart_of}
use Rattle.gridding.specs.GridLimit.{grid_limit}
use Rattle.sample_rows.specs.Sample.{sample_rows}
use Rattle.chart_parts.specs.PartsOf.{parts_of}
use Rattle.index_file.specs.File.{file_bytes}
use Rattle.snapshots.specs.IndexCost.{open_cost}
use Rattle.snapshots.specs.Parts.{chart_in}
use Rattle.track_index.specs.Facts.{facts_of}
use Rattle.track_index.specs.Opening.{IsFile}
use Rattle.gract_top.specs.Cost.{question_cost}
use Rattle.gract_top.specs.Counting.{CountsFiles}
use Rattle.gract_top.specs.Outcome.{OpensOnly, Unopened}
use Rattle.gract_top.specs.Refusal.{grid_refusal, is_bytes_refusal}
use Rattle.gract_top.specs.Summary.{summary_cost, summary_of}
use Rattle.gract_top.specs.declared.outcome.Outcome.{Outcome}
use Rattle.gract_top.specs.declared.outcome.Outcome.TheVariants as outcome
use Rattle.gract_top.specs.declared.request.SampleSettings.{SampleSettings}

-- the chart of a sample, whose cells and instants are one unit
abbrev pub sample_chart : SampleSettings → ChartView
sample_chart settings = chart_of (sample_rows settings.objects settings.instants settings.seed) 1 1 settings.period

-- The refusal of a sample, or none: it might have too many rows, or a quantity of its chart passes its limit.
abbrev pub sample_refusal : SampleSettings → Option Outcome
sample_refusal settings =
    if nat_lt (limit_of limit.Rows) (settings.objects * settings.instants)
    then Some (outcome.Limit limit.Rows (settings.objects * settings.instants))
    else grid_refusal (grid_limit (sample_rows settings.objects settings.instants settings.seed) 1 1 settings.period)

-- Why a sample has no index: its refusal, or out of memory.
abbrev pub NotSampled : Outcome → SampleSettings → Type 0
NotSampled result settings =
    (result ≡ outcome.Memory) ⊎ ((is_bytes_refusal result ≡ true) × (sample_refusal settings ≡ Some result))

-- What is known of a sink at a moment, and how many reads were counted.
pub record Speech : Type 0 where
  pub said : List ℕ
  pub steps : ℕ

-- what is known of a sink, and the reads, put together
abbrev pub speech : List ℕ → ℕ → Speech
speech said steps = record { said = said; steps = steps }

-- A front of a text was said.
pub record SaysFront (before now : List ℕ) (text : List ℕ) : Type 0 where
  pub front : List ℕ
  pub unsaid : List ℕ
  pub split : text ≡ front ++ unsaid
  pub said : Gains before now front

-- What an outcome says of a text: all of it was said, or a front of it.
abbrev pub Told : Outcome → List ℕ → List ℕ → List ℕ → Type 0
Told outcome.Done text before now = Gains before now text
Told outcome.SayFailed text before now = SaysFront before now text
Told outcome.Memory text before now = SaysFront before now text
Told other text before now = ⊥

-- Bytes were opened as these parts within their cost, and the summary of the chart that they hold was said.
pub record SumsOver (result : Outcome) (parts : Parts) (instants : ℕ) (before now : Speech) : Type 0 where
  pub told : Told result (summary_of (chart_in parts) (facts_of parts) instants) before.said now.said
  pub cost : now.steps ≤ before.steps + open_cost parts + summary_cost (question_cost parts) instants

-- The bytes are those of an index file, and the summary is of what it holds.
pub record SumsBytes (result : Outcome) (bytes : List ℕ) (instants : ℕ) (before now : Speech) : Type 0 where
  pub parts : Parts
  pub file : IsFile bytes parts
  pub sums : SumsOver result parts instants before now

-- how a call ends once it has bytes to open
abbrev pub EndsSummed : Outcome → List ℕ → ℕ → Type 0 → Speech → Speech → Type 0
EndsSummed result bytes instants unsaid before now =
    Unopened result bytes unsaid before.steps now.steps ⊎ SumsBytes result bytes instants before now

-- how it ends once it has the bytes of an index file that holds these parts
abbrev pub EndsSummedOver : Outcome → List ℕ → Parts → ℕ → Type 0 → Speech → Speech → Type 0
EndsSummedOver result bytes parts instants unsaid before now =
    ((result ≡ outcome.Memory) × OpensOnly bytes unsaid before.steps now.steps) ⊎ SumsOver result parts instants before now

-- The sample is accepted, and what the files gave for the bytes of its index was opened and summed up. Plain files give
-- these very bytes, and the summary is of the sample's own chart.
pub record SumsSample (result : Outcome) (settings : SampleSettings) (unsaid : Type 0) (given : List ℕ → List ℕ)
    (before now : Speech) : Type 0 where
  pub accepted : sample_refusal settings ≡ None
  pub ended : let written = file_bytes (parts_of (sample_chart settings)) in
      EndsSummed result (given written) settings.instants unsaid before now
  pub plain : let written = file_bytes (parts_of (sample_chart settings)) in
      IsPlain given →
      EndsSummedOver result written (parts_of (sample_chart settings)) settings.instants unsaid before now

-- Nothing was said, and nothing was read of an index.
abbrev pub SumsNothing : Type 0 → Speech → Speech → Type 0
SumsNothing unsaid before now = unsaid × (now.steps ≡ before.steps)

-- How a call of `sample` ends. The files are as they were, but for what they give next.
pub record EndsSample (result : Outcome) (settings : SampleSettings) (unsaid : Type 0) (files_before files_now : FilesState)
    (given : List ℕ → List ℕ) (before now : Speech) : Type 0 where
  pub counts : CountsFiles result files_before files_now
  pub kept : files_now ≡ files_before
  pub refused : is_bytes_refusal result ≡ true →
      (sample_refusal settings ≡ Some result) × SumsNothing unsaid before now
  -- the sample is accepted, or the call was out of memory before there were bytes to pass
  pub accepted : is_bytes_refusal result ≡ false →
      ((result ≡ outcome.Memory) × SumsNothing unsaid before now)
      ⊎ SumsSample result settings unsaid given before now

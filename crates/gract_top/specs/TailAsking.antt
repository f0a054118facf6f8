-- How a call of `ask` with a tail ends: what came of its two files, and what was answered over both.
use Rattle.std.specs.Prelude.{◌≡◌, ℕ, ◌+◌, ◌≤◌, false, List, Option, ◌⊎◌}
use Rattle.host_ports.specs.FilesState.{FilesState}
use Rattle.track_types.specs.Chart.{ChartView}
use Rattle.track_types.specs.declared.parts.Parts.{Parts}
use Rattle.snapshots.specs.IndexCost.{open_cost}
use Rattle.snapshots.specs.Parts.{chart_in}
use Rattle.encounter.specs.WalkedCost.{walked_cost}
use Rattle.live_tail.specs.Cost.{cost_with}
use Rattle.live_tail.specs.Facts.{facts_with}
use Rattle.live_tail.specs.Join.{IsAsBuiltTogether, joint_chart}
use Rattle.question_shell.specs.Session.{Meaning, meaning_of}
use Rattle.gract_top.specs.Beginning.{SavesNothing, progress}
use Rattle.gract_top.specs.Counting.{CountsFiles}
use Rattle.gract_top.specs.Outcome.{AnswersSource, Talk}
use Rattle.gract_top.specs.Refusal.{is_early}
use Rattle.gract_top.specs.TailOpening.{OpensTailed, StopsAtEither}
use Rattle.gract_top.specs.declared.outcome.Outcome.{Outcome}

-- what an index of these parts means with a tail
abbrev pub tailed_meaning : Parts → Option ChartView → Meaning
tailed_meaning parts tail =
    meaning_of (joint_chart (chart_in parts) tail) (facts_with parts tail) (walked_cost (cost_with parts tail))

-- Both files gave what they have, within the cost of opening the index, and the lines were answered over both: over the
-- rows that are gridded from all raw rows of both.
pub record AnswersTailed (result : Outcome) (index csv : List ℕ) (untouched : Type 0) (files_before files_now : FilesState)
    (before now : Talk) : Type 0 where
  pub late : is_early result ≡ false
  pub parts : Parts
  pub tail : Option ChartView
  pub opened : ℕ
  pub opens : OpensTailed index csv parts tail (progress files_before before.steps) (progress files_now opened)
  pub cost : opened ≤ before.steps + open_cost parts
  pub together : IsAsBuiltTogether (chart_in parts) tail
  pub answers : AnswersSource result untouched (tailed_meaning parts tail) (record before { steps = opened }) now

-- How a call of `ask` with a tail ends: at one of its files, or over both.
pub record EndsAskTail (result : Outcome) (index csv : List ℕ) (untouched : Type 0) (files_before files_now : FilesState)
    (before now : Talk) : Type 0 where
  pub counts : CountsFiles result files_before files_now
  pub unsaved : SavesNothing files_before files_now
  pub ended : (StopsAtEither result index csv (progress files_before before.steps) (progress files_now now.steps) × untouched)
      ⊎ AnswersTailed result index csv untouched files_before files_now before now

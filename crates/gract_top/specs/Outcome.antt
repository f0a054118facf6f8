-- What an outcome says of what came, what was said and what was read.
use Rattle.std.specs.Prelude.{◌≡◌, ℕ, ◌+◌, ◌≤◌, Bool, List, Option, Some, ◌⊎◌}
use Rattle.host_ports.specs.declared.sink.Sink.{Ghosts as OfSink}
use Rattle.host_ports.specs.declared.source.Source.{Ghosts as OfSource}
use Rattle.track_types.specs.Limits.{limit_of}
use Rattle.track_types.specs.declared.limit.LimitKind.TheVariants as limit
use Rattle.question_shell.specs.Desk.{DeskView, empty_desk}
use Rattle.question_shell.specs.Session.{AnswersAll, AnswersBefore, AnswersFirst, AnswersFront, AnswersWhole}
use Rattle.question_shell.specs.Session.{Meaning, Run, meaning_of, run_of}
use Rattle.snapshots.specs.IndexCost.{open_cost}
use Rattle.snapshots.specs.Parts.{chart_in}
use Rattle.track_index.specs.Facts.{facts_of}
use Rattle.track_index.specs.Opening.{bytes_cost, first_flaw, IsFile}
use Rattle.track_types.specs.declared.parts.Parts.{Parts}
use Rattle.gract_top.specs.Cost.{question_cost}
use Rattle.gract_top.specs.declared.outcome.Outcome.{Outcome}
use Rattle.gract_top.specs.declared.outcome.Outcome.TheVariants as outcome

-- What is known of a source and a sink at a moment: the bytes still to come, those that came, whether the source ended,
-- how many bytes came, what was said, and how many reads were counted.
pub record Talk : Type 0 where
  pub rest : Option (List ℕ)
  pub came : List ℕ
  pub ended : Bool
  pub taken : ℕ
  pub said : List ℕ
  pub steps : ℕ

-- what is known of this source and this sink, by the meanings of their traits
abbrev pub talk_of : {S K : Type 0} → OfSource S → OfSink K → S → K → ℕ → Talk
talk_of s k source sink steps =
    record {
      rest = s.rest source;
      came = s.came source;
      ended = s.ended source;
      taken = s.taken source;
      said = k.said sink;
      steps = steps;
    }

-- a moment at which a desk is held
abbrev pub run_at : Talk → DeskView → Run
run_at here desk = run_of here.rest here.came here.ended here.taken here.said desk here.steps

-- Which lines were answered: all, the whole ones that came, a front of the replies, those within the limit, or those
-- before one that wanted memory, unless that was wanted before the first question.
abbrev pub Answered : Outcome → Type 0 → Meaning → Run → Run → Type 0
Answered outcome.Done untouched meaning before now = AnswersAll meaning before now
Answered outcome.ListenFailed untouched meaning before now = AnswersWhole meaning before now
Answered outcome.SayFailed untouched meaning before now = AnswersFront meaning before now
Answered (outcome.Limit limit.Questions value) untouched meaning before now =
    (value ≡ limit_of limit.Questions + 1) × AnswersFirst meaning before now
Answered outcome.Memory untouched meaning before now =
    (untouched × (now.steps ≡ before.steps)) ⊎ AnswersBefore meaning before now
Answered other untouched meaning before now = ⊥

-- A source's lines were answered from an empty desk, as far as the outcome says.
pub record AnswersSource (result : Outcome) (untouched : Type 0) (meaning : Meaning) (before now : Talk) : Type 0 where
  pub desk : DeskView
  pub answered : Answered result untouched meaning (run_at before empty_desk) (run_at now desk)

-- what an index of these parts means
abbrev pub index_meaning : Parts → Meaning
index_meaning parts = meaning_of (chart_in parts) (facts_of parts) (question_cost parts)

-- Bytes were opened as these parts within their cost, and the lines were answered over the chart that they hold.
pub record AnswersOver (result : Outcome) (parts : Parts) (untouched : Type 0) (before now : Talk) : Type 0 where
  pub opened : ℕ
  pub cost : opened ≤ before.steps + open_cost parts
  pub answers : AnswersSource result untouched (index_meaning parts) (record before { steps = opened }) now

-- The bytes are those of an index file, and the lines were answered over what it holds.
pub record AnswersIndex (result : Outcome) (bytes : List ℕ) (untouched : Type 0) (before now : Talk) : Type 0 where
  pub parts : Parts
  pub file : IsFile bytes parts
  pub answers : AnswersOver result parts untouched before now

-- Source and sink are as they were, and between these two counts no more was read than opening bytes may cost.
abbrev pub OpensOnly : List ℕ → Type 0 → ℕ → ℕ → Type 0
OpensOnly bytes untouched before now = untouched × (now ≤ before + bytes_cost bytes)

-- The bytes were not opened: for their first flaw, or out of memory.
abbrev pub Unopened : Outcome → List ℕ → Type 0 → ℕ → ℕ → Type 0
Unopened (outcome.Flaw flaw) bytes untouched before now =
    (first_flaw bytes ≡ Some flaw) × OpensOnly bytes untouched before now
Unopened outcome.Memory bytes untouched before now = OpensOnly bytes untouched before now
Unopened other bytes untouched before now = ⊥

-- How a call ends once it has bytes to open: with their first flaw, or over what they hold, unless it was out of memory.
abbrev pub EndsOpened : Outcome → List ℕ → Type 0 → Talk → Talk → Type 0
EndsOpened result bytes untouched before now =
    Unopened result bytes untouched before.steps now.steps ⊎ AnswersIndex result bytes untouched before now

-- How a call ends once it has the bytes of an index file that holds these parts: over them, unless it was out of memory.
abbrev pub EndsOver : Outcome → List ℕ → Parts → Type 0 → Talk → Talk → Type 0
EndsOver result bytes parts untouched before now =
    ((result ≡ outcome.Memory) × OpensOnly bytes untouched before.steps now.steps)
    ⊎ AnswersOver result parts untouched before now

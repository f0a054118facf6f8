-- What one line after another brings, while text is held back.
use Rattle.std.specs.Prelude.{◌≡◌, ℕ, ◌+◌, ◌≤◌, List, [], ◌∷◌, ◌++◌, Option, Result, Ok, Err, true}
use Rattle.track_types.specs.declared.question.Question.{Question}
use Rattle.track_types.specs.declared.stop.Stop.{Stop}
use Rattle.question_shell.specs.Desk.{DeskView, budget_of, held_of}
use Rattle.question_shell.specs.LineKept.{kept_of}
use Rattle.question_shell.specs.Lines.{unended_line, whole_lines}
use Rattle.question_shell.specs.Reply.{Turn, asked_cost, asked_turn}
use Rattle.question_shell.specs.Says.{Cuts, Says, Voice, voice}
use Rattle.question_shell.specs.Session.{Meaning, StopsAt, costs_by, desk_by, replies_by, takes_memory}
use Rattle.question_shell.specs.declared.bad.Bad.{Bad}
use Rattle.question_shell.specs.declared.turn_fault.TurnFault.{TurnFault}
use Rattle.question_shell.specs.declared.turn_fault.TurnFault.TheVariants as fault

-- What was said and is held back, the walks on the desk, and the reads, with what the desk may still read.
pub record Moment : Type 0 where
  pub voice : Voice
  pub desk : List (Option (List Stop))
  pub due : ℕ

-- what was said and is held back, the walks on the desk and the reads, put together
abbrev pub moment : List ℕ → List ℕ → DeskView → ℕ → Moment
moment said held desk steps =
    record { voice = voice said held; desk = held_of desk; due = steps + budget_of desk }

-- what is brought by what a line asks
abbrev pub turn_by : Meaning → Moment → Result (Option Question) Bad → Turn
turn_by meaning before asked = asked_turn meaning.chart meaning.facts before.desk asked

-- What a line asks was answered.
pub record Takes (meaning : Meaning) (before now : Moment) (asked : Result (Option Question) Bad) : Type 0 where
  pub said : Says before.voice now.voice (turn_by meaning before asked).text
  pub desk : now.desk ≡ (turn_by meaning before asked).desk
  pub reads : now.due ≤ before.due + asked_cost meaning.cost before.desk asked

-- A front of the answer was said.
pub record TakesFront (meaning : Meaning) (before now : Moment) (asked : Result (Option Question) Bad) : Type 0 where
  pub said : Cuts before.voice now.voice.said (turn_by meaning before asked).text
  pub reads : now.due ≤ before.due + asked_cost meaning.cost before.desk asked

-- Memory was refused to the answer: nothing was said, and no more was read than it may cost.
pub record Refused (meaning : Meaning) (before now : Moment) (asked : Result (Option Question) Bad) : Type 0 where
  pub takes : takes_memory before.desk asked ≡ true
  pub voice : now.voice ≡ before.voice
  pub desk : now.desk ≡ before.desk
  pub reads : now.due ≤ before.due + asked_cost meaning.cost before.desk asked

-- Lines were answered.
pub record Turns (meaning : Meaning) (before now : Moment) (lines : List (List ℕ)) : Type 0 where
  pub said : Says before.voice now.voice (replies_by meaning before.desk lines)
  pub desk : now.desk ≡ desk_by meaning before.desk lines
  pub reads : now.due ≤ before.due + costs_by meaning before.desk lines

-- A front of the replies to lines was said.
pub record TurnsFront (meaning : Meaning) (before now : Moment) (lines : List (List ℕ)) : Type 0 where
  pub said : Cuts before.voice now.voice.said (replies_by meaning before.desk lines)
  pub reads : now.due ≤ before.due + costs_by meaning before.desk lines

-- The lines before one that takes memory were answered, and no more was read than they and that line cost.
pub record TurnsBefore (meaning : Meaning) (before now : Moment) (all : List (List ℕ)) : Type 0 where
  pub lines : List (List ℕ)
  pub stops : StopsAt meaning before.desk all lines
  pub said : Says before.voice now.voice (replies_by meaning before.desk lines)
  pub desk : now.desk ≡ desk_by meaning before.desk lines
  pub reads : now.due ≤ before.due + costs_by meaning before.desk (lines ++ stops.line ∷ [])

-- The whole lines of the bytes that came were answered, and the line that is coming is kept.
pub record Heard (meaning : Meaning) (before now : Moment) (came : List ℕ) (line : List ℕ) : Type 0 where
  pub turns : Turns meaning before now (whole_lines came)
  pub kept : line ≡ kept_of (unended_line came)

-- How the answer to what a line asks came out: it was given, a front of it was said, or memory was refused.
abbrev pub AnswerTold : Meaning → Moment → Moment → Result (Option Question) Bad → Result Unit TurnFault → Type 0
AnswerTold meaning before now asked (Ok done) = Takes meaning before now asked
AnswerTold meaning before now asked (Err fault.Say) = TakesFront meaning before now asked
AnswerTold meaning before now asked (Err fault.Memory) = Refused meaning before now asked

-- How a reply of one line came out: it was said, or a front of it.
abbrev pub LineTold : Voice → Voice → List ℕ → Result Unit TurnFault → Type 0
LineTold before now line (Ok done) = Says before now line
LineTold before now line (Err fault.Say) = Cuts before now.said line
LineTold before now line (Err fault.Memory) = ⊥

-- How bytes that came were taken: they were heard, a front of the replies was said, or memory was refused.
abbrev pub BytesTold : Meaning → Moment → Moment → List ℕ → List ℕ → Result Unit TurnFault → Type 0
BytesTold meaning before now came line (Ok done) = Heard meaning before now came line
BytesTold meaning before now came line (Err fault.Say) = TurnsFront meaning before now (whole_lines came)
BytesTold meaning before now came line (Err fault.Memory) = TurnsBefore meaning before now (whole_lines came)

-- How more bytes were taken at a moment: with those that were heard before, in one of these ways.
abbrev pub AnswersBytes : Meaning → Moment → List ℕ → List ℕ → Moment → List ℕ → Result Unit TurnFault → Type 0
AnswersBytes meaning before coming bytes now line result = (start : Moment) (came : List ℕ) →
    Heard meaning start before came coming → BytesTold meaning start now (came ++ bytes) line result

-- How these lines were taken: all were answered, a front of the replies was said, or memory was refused.
abbrev pub AnswersLines : Meaning → Moment → Moment → List (List ℕ) → Result Unit TurnFault → Type 0
AnswersLines meaning before now lines (Ok done) = Turns meaning before now lines
AnswersLines meaning before now lines (Err fault.Say) = TurnsFront meaning before now lines
AnswersLines meaning before now lines (Err fault.Memory) = TurnsBefore meaning before now lines

-- How the rest of the text after an answer came out: it was said, or a front of it; after the sink failed, nothing
-- more.
abbrev pub Flushes : Voice → List ℕ → Result Unit TurnFault → Result Unit TurnFault → Type 0
Flushes before now (Ok done) (Ok still) = Says before (voice now []) []
Flushes before now (Ok done) (Err fault.Say) = Cuts before now []
Flushes before now (Ok done) (Err fault.Memory) = ⊥
Flushes before now (Err fault.Say) (Ok still) = ⊥
Flushes before now (Err fault.Say) (Err fault.Say) = now ≡ before.said
Flushes before now (Err fault.Say) (Err fault.Memory) = ⊥
Flushes before now (Err fault.Memory) (Ok still) = ⊥
Flushes before now (Err fault.Memory) (Err fault.Say) = Cuts before now []
Flushes before now (Err fault.Memory) (Err fault.Memory) = Says before (voice now []) []

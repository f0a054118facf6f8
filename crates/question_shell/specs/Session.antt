-- What came from a source, what was said for it, and what was read.
use Rattle.std.specs.Prelude.{◌≡◌, ℕ, ◌+◌, ◌≤◌, Bool, true, false, List, [], ◌∷◌, ◌++◌, ◌⊎◌, length, take}
use Rattle.std.specs.Prelude.{Option, Some, None, is_none}
use Rattle.std.specs.Prelude.{Result, Ok, Err}
use Rattle.std.specs.Io.KnownBytes.{Consumes, IsAtEnd}
use Rattle.host_ports.specs.Histories.{Gains}
use Rattle.host_ports.specs.declared.sink.Sink.{Ghosts as OfSink}
use Rattle.host_ports.specs.declared.source.Source.{Ghosts as OfSource}
use Rattle.track_types.specs.Chart.{ChartView}
use Rattle.track_types.specs.Limits.{limit_of}
use Rattle.track_types.specs.declared.answerer.Answerer.{Ghosts as OfAnswerer}
use Rattle.track_types.specs.declared.facts.Facts.{Facts}
use Rattle.track_types.specs.declared.limit.LimitKind.TheVariants.{Questions}
use Rattle.track_types.specs.declared.question.Question.{Question}
use Rattle.track_types.specs.declared.stop.Stop.{Stop}
use Rattle.question_shell.specs.Desk.{DeskView, budget_of, held_of}
use Rattle.question_shell.specs.Grammar.{question_of}
use Rattle.question_shell.specs.Lines.{input_lines, whole_lines}
use Rattle.question_shell.specs.Replies.{costs_of, desk_after, replies_of}
use Rattle.question_shell.specs.Items.{stops_at}
use Rattle.question_shell.specs.Kinds.{own_memory}
use Rattle.question_shell.specs.SlotParts.{OfNoSlot, SlotPart, ToDraw, ToEmpty, ToHold, slot_part}
use Rattle.question_shell.specs.Slots.{lines_of_slot, replies_to_each, replies_to_slot}
use Rattle.question_shell.specs.declared.bad.Bad.{Bad}

-- What an answerer means: a chart, its facts, and what each question may cost in reads.
pub record Meaning : Type 0 where
  pub chart : ChartView
  pub facts : Facts
  pub cost : Question → ℕ

-- a chart, facts and costs as what an answerer means
abbrev pub meaning_of : ChartView → Facts → (Question → ℕ) → Meaning
meaning_of chart facts cost = record { chart = chart; facts = facts; cost = cost }

-- what an answerer means, of all meanings of its trait
abbrev pub meaning_by : {A W : Type 0} → OfAnswerer A W → A → Meaning
meaning_by g answerer = meaning_of (g.chart answerer) (g.facts answerer) (g.cost answerer)

-- the replies to lines, where the desk holds these walks
abbrev pub replies_by : Meaning → List (Option (List Stop)) → List (List ℕ) → List ℕ
replies_by meaning desk lines = replies_of meaning.chart meaning.facts desk lines

-- the desk after lines
abbrev pub desk_by : Meaning → List (Option (List Stop)) → List (List ℕ) → List (Option (List Stop))
desk_by meaning desk lines = desk_after meaning.chart meaning.facts desk lines

-- what lines may cost in reads
abbrev pub costs_by : Meaning → List (Option (List Stop)) → List (List ℕ) → ℕ
costs_by meaning desk lines = costs_of meaning.cost meaning.chart meaning.facts desk lines

-- What is known at a moment: the bytes still to come, those that came, whether the source ended, how many bytes came, what
-- was said, the desk, and the reads.
pub record Run : Type 0 where
  pub rest : Option (List ℕ)
  pub came : List ℕ
  pub ended : Bool
  pub taken : ℕ
  pub said : List ℕ
  pub desk : DeskView
  pub steps : ℕ

-- what is known at a moment, put together
abbrev pub run_of : Option (List ℕ) → List ℕ → Bool → ℕ → List ℕ → DeskView → ℕ → Run
run_of rest came ended taken said desk steps =
    record { rest = rest; came = came; ended = ended; taken = taken; said = said; desk = desk; steps = steps }

-- what is known of a source, a sink, a desk and the reads
abbrev pub run_by : {S K : Type 0} → OfSource S → OfSink K → S → K → DeskView → ℕ → Run
run_by heard told source sink desk steps =
    run_of (heard.rest source) (heard.came source) (heard.ended source) (heard.taken source) (told.said sink) desk steps

-- These bytes came in between, and no others: they were next where the source tells what is to come, and are counted.
pub record Came (before now : Run) (bytes : List ℕ) : Type 0 where
  pub history : Gains before.came now.came bytes
  pub consumed : Consumes before.rest now.rest bytes
  pub counted : now.taken ≡ before.taken + length bytes

-- The replies to the lines `hold`, `more` and `free` of each slot are those that these lines alone would get from the same
-- desk.
abbrev pub AreIndependent : Meaning → List (Option (List Stop)) → List (List ℕ) → Type 0
AreIndependent meaning desk lines = (slot : ℕ) →
    replies_to_slot meaning.chart meaning.facts desk slot lines
    ≡ replies_to_each meaning.chart meaning.facts desk (lines_of_slot slot lines)

-- These lines were answered in between. Exactly their replies were said, the desk is the one after them, and the
-- replies to each slot's lines are its own. What was read, with what the desk may still read, is at most what the lines
-- cost, with what the desk could read before.
pub record Answers (meaning : Meaning) (before now : Run) (lines : List (List ℕ)) : Type 0 where
  pub said : Gains before.said now.said (replies_by meaning (held_of before.desk) lines)
  pub desk : held_of now.desk ≡ desk_by meaning (held_of before.desk) lines
  pub slots : AreIndependent meaning (held_of before.desk) lines
  pub reads : now.steps + budget_of now.desk
      ≤ before.steps + budget_of before.desk + costs_by meaning (held_of before.desk) lines

-- The source was read to its end: its last answer was no bytes, and where it tells what is to come, that is nothing.
pub record HasEnded (now : Run) : Type 0 where
  pub ended : now.ended ≡ true
  pub at_end : IsAtEnd now.rest

-- The source was read to its end, and all lines were answered.
pub record AnswersAll (meaning : Meaning) (before now : Run) : Type 0 where
  pub bytes : List ℕ
  pub came : Came before now bytes
  pub ended : HasEnded now
  pub within : length bytes ≤ limit_of Questions
  pub answers : Answers meaning before now (input_lines bytes)

-- The whole lines among the bytes that came were answered.
pub record AnswersWhole (meaning : Meaning) (before now : Run) : Type 0 where
  pub bytes : List ℕ
  pub came : Came before now bytes
  pub within : length bytes ≤ limit_of Questions
  pub answers : Answers meaning before now (whole_lines bytes)

-- One byte more came than question input may have, and the whole lines before it were answered.
pub record AnswersFirst (meaning : Meaning) (before now : Run) : Type 0 where
  pub bytes : List ℕ
  pub came : Came before now bytes
  pub past : length bytes ≡ limit_of Questions + 1
  pub answers : Answers meaning before now (whole_lines (take (limit_of Questions) bytes))

-- whether what is asked of a slot takes memory: holding an empty one does, and this where nothing is asked
abbrev pub slot_memory : Bool → List (Option (List Stop)) → SlotPart → Bool
slot_memory own desk (ToHold slot object from to) = is_none (stops_at desk slot)
slot_memory own desk (ToDraw slot count) = false
slot_memory own desk (ToEmpty slot) = false
slot_memory own desk OfNoSlot = own

-- whether answering this takes memory, where the desk holds these walks
abbrev pub takes_memory : List (Option (List Stop)) → Result (Option Question) Bad → Bool
takes_memory desk (Ok None) = false
takes_memory desk (Ok (Some asked)) = slot_memory (own_memory asked) desk (slot_part asked)
takes_memory desk (Err bad) = false

-- One of the lines takes memory, where the desk is the one after the lines before it, which are these.
pub record StopsAt (meaning : Meaning) (desk : List (Option (List Stop))) (lines before : List (List ℕ)) : Type 0 where
  pub line : List ℕ
  pub behind : List (List ℕ)
  pub split : lines ≡ before ++ line ∷ behind
  pub takes : takes_memory (desk_by meaning desk before) (question_of line) ≡ true

-- The lines that may be answered: the whole ones, and all of them where the source was read to its end.
abbrev pub AreTaken : Run → List ℕ → List (List ℕ) → Type 0
AreTaken now bytes lines = (lines ≡ whole_lines bytes) ⊎ (HasEnded now × (lines ≡ input_lines bytes))

-- The lines before one that takes memory were answered, and no other: exactly their replies were said, the desk is the
-- one after them, and no more was read than they and that line cost.
pub record AnswersBefore (meaning : Meaning) (before now : Run) : Type 0 where
  pub bytes : List ℕ
  pub came : Came before now bytes
  pub within : length bytes ≤ limit_of Questions + 1
  pub all : List (List ℕ)
  pub taken : AreTaken now bytes all
  pub lines : List (List ℕ)
  pub stops : StopsAt meaning (held_of before.desk) all lines
  pub said : Gains before.said now.said (replies_by meaning (held_of before.desk) lines)
  pub desk : held_of now.desk ≡ desk_by meaning (held_of before.desk) lines
  pub slots : AreIndependent meaning (held_of before.desk) lines
  pub reads : now.steps + budget_of now.desk
      ≤ before.steps + budget_of before.desk
      + costs_by meaning (held_of before.desk) (lines ++ stops.line ∷ [])

-- All that came before a last piece of at most 4,096 bytes was answered when that piece came: the replies to its whole
-- lines were said, and then some text more.
pub record AnswersToPiece (meaning : Meaning) (before now : Run) (bytes : List ℕ) : Type 0 where
  pub heard : List ℕ
  pub piece : List ℕ
  pub split : bytes ≡ heard ++ piece
  pub short : length piece ≤ 4096
  pub spoken : List ℕ
  pub answered : Gains before.said spoken (replies_by meaning (held_of before.desk) (whole_lines heard))
  pub rest : List ℕ
  pub said : Gains spoken now.said rest

-- What was said is a front of the replies to lines that may be answered, nothing came after the piece that was being
-- answered, and no more was read than these lines cost and the desk could read.
pub record AnswersFront (meaning : Meaning) (before now : Run) : Type 0 where
  pub bytes : List ℕ
  pub came : Came before now bytes
  pub within : length bytes ≤ limit_of Questions + 1
  pub lines : List (List ℕ)
  pub taken : AreTaken now bytes lines
  pub text : List ℕ
  pub unsaid : List ℕ
  pub front : replies_by meaning (held_of before.desk) lines ≡ text ++ unsaid
  pub said : Gains before.said now.said text
  pub last : AnswersToPiece meaning before now bytes
  pub reads : now.steps ≤ before.steps + budget_of before.desk + costs_by meaning (held_of before.desk) lines

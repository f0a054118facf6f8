-- The replies to the lines of one slot.
use Rattle.std.specs.Prelude.{ℕ, ◌==◌, Bool, false, if◌then◌else◌, List, [], ◌∷◌, filter}
use Rattle.std.specs.Prelude.{Option, Some, None, Result, Ok, Err}
use Rattle.track_types.specs.Chart.{ChartView}
use Rattle.track_types.specs.declared.facts.Facts.{Facts}
use Rattle.track_types.specs.declared.question.Question.{Question}
use Rattle.track_types.specs.declared.stop.Stop.{Stop}
use Rattle.question_shell.specs.Grammar.{question_of}
use Rattle.question_shell.specs.Replies.{turn_of}
use Rattle.question_shell.specs.SlotParts.{OfNoSlot, SlotPart, ToDraw, ToEmpty, ToHold, slot_part}
use Rattle.question_shell.specs.declared.bad.Bad.{Bad}

-- whether something is asked of this slot
abbrev pub is_of_slot : ℕ → SlotPart → Bool
is_of_slot slot (ToHold held object from to) = held == slot
is_of_slot slot (ToDraw held count) = held == slot
is_of_slot slot (ToEmpty held) = held == slot
is_of_slot slot OfNoSlot = false

-- whether a line asks something of this slot: to hold it, more of it, or to free it
abbrev pub asks_slot : ℕ → Result (Option Question) Bad → Bool
asks_slot slot (Ok None) = false
asks_slot slot (Ok (Some asked)) = is_of_slot slot (slot_part asked)
asks_slot slot (Err bad) = false

-- the lines that ask something of a slot
abbrev pub lines_of_slot : ℕ → List (List ℕ) → List (List ℕ)
lines_of_slot slot lines = filter (λ line. asks_slot slot (question_of line)) lines

-- the reply to each line, where each is answered with the desk that the line before left
unfoldable pub replies_to_each : ChartView → Facts → List (Option (List Stop)) → List (List ℕ) → List (List ℕ)
replies_to_each chart facts desk [] = []
replies_to_each chart facts desk (line ∷ lines) =
    let turn = turn_of chart facts desk line in turn.text ∷ replies_to_each chart facts turn.desk lines

-- the replies to those of the lines that ask something of a slot, where all lines are answered
unfoldable pub replies_to_slot : ChartView → Facts → List (Option (List Stop)) → ℕ → List (List ℕ) → List (List ℕ)
replies_to_slot chart facts desk slot [] = []
replies_to_slot chart facts desk slot (line ∷ lines) =
    let turn = turn_of chart facts desk line in
    let later = replies_to_slot chart facts turn.desk slot lines in
    if asks_slot slot (question_of line) then turn.text ∷ later else later

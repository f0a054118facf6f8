-- What is said for each line.
use Rattle.std.specs.Prelude.{ℕ, List, [], ◌++◌, drop, length, codes, Option, Some, None, Result, Ok, Err}
use Rattle.std.specs.Prelude.{if◌then◌else◌, is_some, option_map, slice_set, unwrap_or}
use Rattle.std.specs.List.{flat_map}
use Rattle.std.specs.Fmt.{decimal}
use Rattle.track_types.specs.ByFilter.{path_of}
use Rattle.track_types.specs.Chart.{ChartView}
use Rattle.track_types.specs.declared.facts.Facts.{Facts}
use Rattle.track_types.specs.declared.question.Question.{Question}
use Rattle.track_types.specs.declared.question.Question.TheVariants as question
use Rattle.track_types.specs.declared.stop.Stop.{Stop}
use Rattle.question_shell.specs.Items.{items_of, line_of, said_line, stops_at}
use Rattle.question_shell.specs.Kinds.{own_cost}
use Rattle.question_shell.specs.SlotParts.{OfNoSlot, SlotPart, ToDraw, ToEmpty, ToHold, slot_part}
use Rattle.question_shell.specs.declared.bad.Bad.{Bad}
use Rattle.question_shell.specs.declared.bad.Bad.TheVariants as bad
use Rattle.question_shell.specs.declared.item.Item.{Item}

-- ok N, where N is how many lines come before in the reply
abbrev pub ok_line : ℕ → List ℕ
ok_line count = said_line (codes "ok " ++ decimal count)

-- the last line of a reply: how many lines come before it, or why nothing was done
abbrev pub last_line : Option (List ℕ) → ℕ → List ℕ
last_line refusal count = unwrap_or refusal (ok_line count)

-- a line for each item, and the last line
unfoldable pub listed : List Item → Option (List ℕ) → List ℕ
listed items refusal = flat_map line_of items ++ last_line refusal (length items)

-- the cause that a bad line has
abbrev pub cause_of : Bad → List ℕ
cause_of bad.Long = codes "long"
cause_of bad.Word = codes "word"
cause_of bad.Count = codes "count"
cause_of (bad.Number place) = codes "number " ++ decimal place
cause_of (bad.Range place) = codes "range " ++ decimal place

-- what is said for a bad line
abbrev pub bad_line : Bad → List ℕ
bad_line bad = said_line (codes "bad " ++ cause_of bad)

-- What one line brings: what is said for it, and the walks that the desk holds after it.
pub record Turn : Type 0 where
  pub text : List ℕ
  pub desk : List (Option (List Stop))

-- only a text: the desk is as it was
abbrev pub only_text : List (Option (List Stop)) → List ℕ → Turn
only_text desk text = record { text = text; desk = desk }

-- what is said where a slot is held that should be empty
abbrev pub held_line : List ℕ
held_line = said_line (codes "bad held")

-- what is said where a slot is empty that should be held
abbrev pub free_line : List ℕ
free_line = said_line (codes "bad free")

-- why nothing is done, by what the slot holds: a held slot is to be held again, or an empty one drawn from or emptied
abbrev pub slot_refusal : List (Option (List Stop)) → SlotPart → Option (List ℕ)
slot_refusal desk (ToHold slot object from to) = if is_some (stops_at desk slot) then Some held_line else None
slot_refusal desk (ToDraw slot count) = if is_some (stops_at desk slot) then None else Some free_line
slot_refusal desk (ToEmpty slot) = if is_some (stops_at desk slot) then None else Some free_line
slot_refusal desk OfNoSlot = None

-- why a question does nothing, if so
abbrev pub refusal_of : List (Option (List Stop)) → Question → Option (List ℕ)
refusal_of desk asked = slot_refusal desk (slot_part asked)

-- the desk after what is asked of a slot: an empty slot holds the path that it should hold, what is drawn from a slot is
-- taken off, and a slot that should be free is empty
abbrev pub slot_desk : ChartView → List (Option (List Stop)) → SlotPart → List (Option (List Stop))
slot_desk chart desk (ToHold slot object from to) =
    slice_set desk slot (Some (unwrap_or (stops_at desk slot) (path_of chart.rows object from to)))
slot_desk chart desk (ToDraw slot count) = slice_set desk slot (option_map (drop count) (stops_at desk slot))
slot_desk chart desk (ToEmpty slot) = slice_set desk slot None
slot_desk chart desk OfNoSlot = desk

-- the desk after a question
abbrev pub desk_of : ChartView → List (Option (List Stop)) → Question → List (Option (List Stop))
desk_of chart desk asked = slot_desk chart desk (slot_part asked)

-- what a question brings
abbrev pub question_turn : ChartView → Facts → List (Option (List Stop)) → Question → Turn
question_turn chart facts desk asked = record {
  text = listed (items_of chart facts desk asked) (refusal_of desk asked);
  desk = desk_of chart desk asked;
}

-- what is brought by what a line asks: nothing for a blank line
abbrev pub asked_turn : ChartView → Facts → List (Option (List Stop)) → Result (Option Question) Bad → Turn
asked_turn chart facts desk (Ok None) = only_text desk []
asked_turn chart facts desk (Ok (Some asked)) = question_turn chart facts desk asked
asked_turn chart facts desk (Err bad) = only_text desk (bad_line bad)

-- what holding costs where the place of its slot holds this: as much as its path, and nothing where it is held
abbrev pub hold_cost : ℕ → Option (List Stop) → ℕ
hold_cost cost None = cost
hold_cost cost (Some held) = 0

-- what is asked of a slot costs: what holding does, nothing for `more` and `free`, and this where nothing is asked
abbrev pub slot_cost : ℕ → (Question → ℕ) → List (Option (List Stop)) → SlotPart → ℕ
slot_cost own cost desk (ToHold slot object from to) =
    hold_cost (cost (question.Path object from to)) (stops_at desk slot)
slot_cost own cost desk (ToDraw slot count) = 0
slot_cost own cost desk (ToEmpty slot) = 0
slot_cost own cost desk OfNoSlot = own

-- what a line's question may cost in reads, where the desk holds these walks: nothing for a blank or bad line
abbrev pub asked_cost : (Question → ℕ) → List (Option (List Stop)) → Result (Option Question) Bad → ℕ
asked_cost cost desk (Ok None) = 0
asked_cost cost desk (Ok (Some asked)) = slot_cost (own_cost cost asked) cost desk (slot_part asked)
asked_cost cost desk (Err bad) = 0

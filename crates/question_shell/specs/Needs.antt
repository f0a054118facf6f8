-- Which reads an answer makes, and which the walks on the desk need after it.
use Rattle.std.specs.Prelude.{ℕ, ◌==◌, ◌||◌, ◌&&◌, if◌then◌else◌, Bool, false, Option, Some, Result, Ok}
use Rattle.step_count.specs.Reads.{Read}
use Rattle.track_types.specs.declared.question.Question.{Question}
use Rattle.track_types.specs.declared.question.Question.TheVariants as question
use Rattle.question_shell.specs.Desk.{no_needs}
use Rattle.question_shell.specs.Kinds.{own_needs}
use Rattle.question_shell.specs.SlotParts.{OfNoSlot, SlotPart, ToDraw, ToEmpty, ToHold, slot_part}
use Rattle.question_shell.specs.declared.bad.Bad.{Bad}

-- by what an answerer says of each question, and what the walk in each slot needs
module _ (needs : Question → Read → Bool) (held : ℕ → Read → Bool) where
  -- what is asked of a slot: to draw from it needs the reads of the walk in it, to hold or empty it none, and nothing of
  -- any slot these reads
  abbrev pub slot_part_needs : (Read → Bool) → SlotPart → Read → Bool
  slot_part_needs own (ToHold slot object from to) = no_needs
  slot_part_needs own (ToDraw slot count) = held slot
  slot_part_needs own (ToEmpty slot) = no_needs
  slot_part_needs own OfNoSlot = own

  -- The reads that the answer to a question makes. A `more` makes those of the walk in its slot. `hold`, `free` and
  -- `info` make none.
  abbrev pub question_needs : Question → Read → Bool
  question_needs asked = slot_part_needs (own_needs needs asked) (slot_part asked)

  -- the reads that the answer to a line makes, by what it asks: none where it asks nothing or is bad
  abbrev pub asked_needs : Result (Option Question) Bad → Read → Bool
  asked_needs (Ok (Some asked)) = question_needs asked
  asked_needs other = no_needs

  -- the reads that the walk in each slot needs after this is asked of a slot
  abbrev pub slot_needs_after : SlotPart → ℕ → Read → Bool
  slot_needs_after (ToHold slot object from to) =
      λ place read. held place read || (slot == place && needs (question.Path object from to) read)
  slot_needs_after (ToEmpty slot) = λ place read. if slot == place then false else held place read
  slot_needs_after other = held

  -- The reads that the walk in each slot needs after a question: in the slot of a `hold` also those of its path, in the
  -- slot of a `free` none, and in any other slot those that it needed before.
  abbrev pub needs_after : Question → ℕ → Read → Bool
  needs_after asked = slot_needs_after (slot_part asked)

  -- the same after a line, by what it asks: those that it needed before where it asks nothing or is bad
  abbrev pub needs_after_line : Result (Option Question) Bad → ℕ → Read → Bool
  needs_after_line (Ok (Some asked)) = needs_after asked
  needs_after_line other = held

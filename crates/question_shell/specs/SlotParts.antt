-- What questions ask of a slot.
use Rattle.std.specs.Prelude.{ℕ, ℤ}
use Rattle.track_types.specs.declared.question.Question.{Question}
use Rattle.track_types.specs.declared.question.Question.TheVariants as question

-- What is asked of a slot: to hold it over the path of an object from one instant to another, to draw so many stops from
-- it, to empty it, or nothing of any slot.
pub data SlotPart : Type 0 where
  ToHold : ℕ → ℕ → ℤ → ℤ → SlotPart
  ToDraw : ℕ → ℕ → SlotPart
  ToEmpty : ℕ → SlotPart
  OfNoSlot : SlotPart

-- what a question asks of a slot
abbrev pub slot_part : Question → SlotPart
slot_part (question.Hold slot object from to) = ToHold slot object from to
slot_part (question.More slot count) = ToDraw slot count
slot_part (question.Free slot) = ToEmpty slot
slot_part other = OfNoSlot

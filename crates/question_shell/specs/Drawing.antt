-- What is left of an answer, while its items are drawn.
use Rattle.std.specs.Prelude.{◌≡◌, ℕ, ◌+◌, ◌<◌, ◌≤◌, ◌^◌, ⊤, List, [], ◌++◌, drop, length, Option, Some, None, Ok}
use Rattle.std.specs.Prelude.{Bool, option_map, slice_set}
use Rattle.step_count.specs.Reads.{Read, ReadsWithin}
use Rattle.track_types.specs.declared.question.Question.{Question}
use Rattle.track_types.specs.declared.stop.Stop.{Stop}
use Rattle.question_shell.specs.Desk.{DeskView, NeedsNoMore, NeedsWithin, budget_of, held_of, no_needs, slot_needs}
use Rattle.question_shell.specs.Items.{items_left, items_of, stops_at}
use Rattle.question_shell.specs.Reply.{asked_cost, desk_of, free_line, held_line, refusal_of}
use Rattle.question_shell.specs.Session.{Meaning}
use Rattle.question_shell.specs.declared.answer.Answer.{Answer}
use Rattle.question_shell.specs.declared.answer.Answer.TheVariants as answer
use Rattle.question_shell.specs.declared.item.Item.{Item}

-- The slot that an answer draws from is one of the desk's 16.
abbrev pub IsOfDesk : {W : Type 0} → Answer W → Type 0
IsOfDesk (answer.More slot count) = slot < 16
IsOfDesk other = ⊤

-- why nothing was done, if so
abbrev pub refusal_left : {W : Type 0} → Answer W → Option (List ℕ)
refusal_left answer.Held = Some held_line
refusal_left answer.Free = Some free_line
refusal_left other = None

module _ {W : Type 0} (left : W → List Stop) (budget : W → ℕ) where
  -- what the desk will hold once they are drawn
  abbrev pub desk_left : Answer W → DeskView → List (Option (List Stop))
  desk_left (answer.More slot count) desk =
      slice_set (held_of desk) slot (option_map (drop count) (stops_at (held_of desk) slot))
  desk_left other desk = held_of desk

  -- how many reads the answer and the desk may still make
  abbrev pub reads_left : Answer W → DeskView → ℕ
  reads_left (answer.Walk walk) desk = budget walk + budget_of desk
  reads_left other desk = budget_of desk

  -- Some items were drawn, and what was read is taken from what may be read.
  pub record GivesItems (before now : Answer W) (desk after : DeskView) (start end : ℕ) (found : List Item) : Type 0 where
    pub slot : IsOfDesk now
    pub items : items_left left before desk ≡ found ++ items_left left now after
    pub refusal : refusal_left now ≡ refusal_left before
    pub held : desk_left now after ≡ desk_left before desk
    pub reads : end + reads_left now after ≤ start + reads_left before desk

  -- No item is left, and the desk is as it should be.
  pub record IsDrawn (now : Answer W) (desk : DeskView) : Type 0 where
    pub items : items_left left now desk ≡ []
    pub held : desk_left now desk ≡ held_of desk

-- A question was asked: the answer will bring what the question does, its items are those that it finds, and no more is
-- read than it may cost.
pub record IsAnswer {W : Type 0} (left : W → List Stop) (budget : W → ℕ) (meaning : Meaning) (asked : Question)
    (before : DeskView) (start : ℕ) (answer : Answer W) (desk : DeskView) (end : ℕ) : Type 0 where
  pub slot : IsOfDesk answer
  pub items : items_left left answer desk ≡ items_of meaning.chart meaning.facts (held_of before) asked
  pub few : length (items_left left answer desk) < 2 ^ 64
  pub refusal : refusal_left answer ≡ refusal_of (held_of before) asked
  pub held : desk_left left budget answer desk ≡ desk_of meaning.chart (held_of before) asked
  pub reads : end + reads_left left budget answer desk
      ≤ start + budget_of before + asked_cost meaning.cost (held_of before) (Ok (Some asked))

module _ {W : Type 0} (needs : W → Read → Bool) where
  -- the reads that the items of an answer need: those of its walk, or of the walk in its slot
  abbrev pub needs_left : Answer W → List (Option W) → Read → Bool
  needs_left (answer.Walk walk) walks = needs walk
  needs_left (answer.More slot count) walks = slot_needs needs walks slot
  needs_left other walks = no_needs

  -- From one moment to a later one neither an answer nor a walk on the desk needs more than before.
  pub record AnswerNeeds (before now : Answer W) (walks after : List (Option W)) : Type 0 where
    pub own : ReadsWithin (needs_left now after) (needs_left before walks)
    pub desk : NeedsNoMore needs walks after

  -- The answer needs no other reads than these, and each place of the desk none but those that stand for it.
  pub record AnswerWithin (these : Read → Bool) (those : ℕ → Read → Bool) (answer : Answer W)
      (walks : List (Option W)) : Type 0 where
    pub own : ReadsWithin (needs_left answer walks) these
    pub desk : NeedsWithin needs walks those

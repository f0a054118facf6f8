-- What `sample` says of a chart: the reply to `info`, and the last line of the reply to each of five questions more.
use Rattle.std.specs.Prelude.{ℕ, ◌-◌, ◌/◌, min, pos, List, [], ◌∷◌, ◌++◌, length, None}
use Rattle.std.specs.List.{flat_map, sum_by}
use Rattle.question_shell.specs.Desk.{empty_desk, held_of}
use Rattle.question_shell.specs.Kinds.{AreAsked}
use Rattle.question_shell.specs.Items.{items_of}
use Rattle.question_shell.specs.Reply.{listed, ok_line}
use Rattle.question_shell.specs.SlotParts.{OfNoSlot, SlotPart, slot_part}
use Rattle.question_shell.specs.declared.item.Item.{Item}
use Rattle.track_types.specs.Chart.{ChartView}
use Rattle.track_types.specs.declared.cell.Cell.{Cell}
use Rattle.track_types.specs.declared.facts.Facts.{Facts}
use Rattle.track_types.specs.declared.question.Question.{Question}
use Rattle.track_types.specs.declared.question.Question.TheVariants as question
use Rattle.track_types.specs.declared.region.Region.{Region}
use Rattle.track_types.specs.declared.region.Region.TheVariants as region

-- the last of so many instants, counted from 0
abbrev pub last_instant : ℕ → ℕ
last_instant instants = instants - 1

-- the middle one of so many instants: half of them, rounded down, are before it, unless that is past the last
abbrev pub middle_instant : ℕ → ℕ
middle_instant instants = min (instants / 2) (last_instant instants)

-- the lower left quarter of a sample's grid
abbrev pub lower_quarter : Region
lower_quarter = region.Rect (pos 0) (pos 0) (pos 511) (pos 511)

-- the cell in the middle of the grid
abbrev pub middle_cell : Cell
middle_cell = record { x = pos 512; y = pos 512 }

-- the questions whose replies are counted
abbrev pub counted_questions : ℕ → List Question
counted_questions instants =
    question.Position 0 (pos (middle_instant instants))
    ∷ question.Path 0 (pos 0) (pos (last_instant instants))
    ∷ question.Slice (pos (middle_instant instants)) lower_quarter
    ∷ question.Interval (pos 0) (pos (last_instant instants)) (region.Disc (pos 512) (pos 512) 100)
    ∷ question.Nearest 5 (pos (last_instant instants)) middle_cell
    ∷ []

-- what a question finds where no slot is held
abbrev pub found_by : ChartView → Facts → Question → List Item
found_by chart facts asked = items_of chart facts (held_of empty_desk) asked

-- the last line of the reply to a question, which says how many items it finds
abbrev pub count_line : ChartView → Facts → Question → List ℕ
count_line chart facts asked = ok_line (length (found_by chart facts asked))

-- the last lines of the replies to questions
unfoldable pub counts_of : ChartView → Facts → List Question → List ℕ
counts_of chart facts asked = flat_map (count_line chart facts) asked

-- the summary of a chart: all of the reply to `info`, and the last lines of the other replies
abbrev pub summary_of : ChartView → Facts → ℕ → List ℕ
summary_of chart facts instants =
    listed (found_by chart facts question.Info) None ++ counts_of chart facts (counted_questions instants)

-- what the questions of a summary cost in reads: `info` costs none
abbrev pub summary_cost : (Question → ℕ) → ℕ → ℕ
summary_cost cost instants = sum_by cost (counted_questions instants)

-- A question that may be asked, where this is what it asks of a slot: nothing.
abbrev pub IsOfNoSlot : Question → SlotPart → Type 0
IsOfNoSlot asked OfNoSlot = AreAsked asked
IsOfNoSlot asked other = ⊥

-- A question that may be asked, and is about no slot.
abbrev pub IsSlotless : Question → Type 0
IsSlotless asked = IsOfNoSlot asked (slot_part asked)

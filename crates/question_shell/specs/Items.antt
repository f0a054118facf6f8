-- What a question finds with a desk, item by item, the line of each item, and what an answer has left of them.
use Rattle.std.specs.Prelude.{ℕ, ℤ, List, [], ◌∷◌, ◌++◌, map, take, codes, Option, None, unwrap_or}
use Rattle.std.specs.Prelude.{option_to_list, slice_index_or}
use Rattle.std.specs.Fmt.{decimal, signed_decimal}
use Rattle.track_types.specs.Chart.{ChartView}
use Rattle.track_types.specs.declared.cell.Cell.{Cell}
use Rattle.track_types.specs.declared.facts.Facts.{Facts}
use Rattle.track_types.specs.declared.question.Question.{Question}
use Rattle.track_types.specs.declared.stop.Stop.{Stop}
use Rattle.question_shell.specs.Desk.{DeskView, slot_stops}
use Rattle.question_shell.specs.Kinds.{items_in}
use Rattle.question_shell.specs.SlotParts.{OfNoSlot, SlotPart, ToDraw, ToEmpty, ToHold, slot_part}
use Rattle.question_shell.specs.declared.answer.Answer.{Answer}
use Rattle.question_shell.specs.declared.answer.Answer.TheVariants as answer
use Rattle.question_shell.specs.declared.item.Item.{Item}
use Rattle.question_shell.specs.declared.item.Item.TheVariants as item

-- a text with its line feed
abbrev pub said_line : List ℕ → List ℕ
said_line text = text ++ 10 ∷ []

-- X Y
abbrev pub cell_line : Cell → List ℕ
cell_line cell = said_line (signed_decimal cell.x ++ codes " " ++ signed_decimal cell.y)

-- T X Y
abbrev pub stop_line : Stop → List ℕ
stop_line stop = signed_decimal stop.instant ++ codes " " ++ cell_line stop.cell

-- NAME N
abbrev pub fact_line : List ℕ × ℤ → List ℕ
fact_line fact = said_line (fact.0 ++ codes " " ++ signed_decimal fact.1)

-- the line of an item: of a cell X Y, of a stop T X Y, of a sighting O X Y, of a hit O T X Y, of a near object O X Y D2,
-- of a meeting T XA YA XB YB, and of a fact NAME N
abbrev pub line_of : Item → List ℕ
line_of (item.Cell cell) = cell_line cell
line_of (item.Stop stop) = stop_line stop
line_of (item.Sighting sighting) = decimal sighting.object ++ codes " " ++ cell_line sighting.cell
line_of (item.Hit hit) =
    decimal hit.object ++ codes " " ++ signed_decimal hit.instant ++ codes " " ++ cell_line hit.cell
line_of (item.Near near) = said_line (
    decimal near.object
    ++ codes " "
    ++ signed_decimal near.cell.x
    ++ codes " "
    ++ signed_decimal near.cell.y
    ++ codes " "
    ++ decimal near.dist2
    )
line_of (item.Meeting meeting) =
    signed_decimal meeting.instant
    ++ codes " "
    ++ signed_decimal meeting.left.x
    ++ codes " "
    ++ signed_decimal meeting.left.y
    ++ codes " "
    ++ cell_line meeting.right
line_of (item.Fact fact) = fact_line fact

-- what the place of a slot holds; nothing where it is empty
abbrev pub stops_at : List (Option (List Stop)) → ℕ → Option (List Stop)
stops_at desk slot = slice_index_or desk slot None

-- what is found by what is asked of a slot: the next stops where they are drawn, and these items where nothing is asked
abbrev pub slot_items : List Item → List (Option (List Stop)) → SlotPart → List Item
slot_items found desk (ToHold slot object from to) = []
slot_items found desk (ToDraw slot count) = map item.Stop (take count (unwrap_or (stops_at desk slot) []))
slot_items found desk (ToEmpty slot) = []
slot_items found desk OfNoSlot = found

-- what a question finds, where the desk holds these walks
abbrev pub items_of : ChartView → Facts → List (Option (List Stop)) → Question → List Item
items_of chart facts desk asked = slot_items (items_in chart facts asked) desk (slot_part asked)

-- the items that are left of an answer, while they are drawn
abbrev pub items_left : {W : Type 0} → (W → List Stop) → Answer W → DeskView → List Item
items_left left (answer.One found) desk = option_to_list found
items_left left (answer.Walk walk) desk = map item.Stop (left walk)
items_left left (answer.Sightings found) desk = map item.Sighting found
items_left left (answer.Hits found) desk = map item.Hit found
items_left left (answer.Nears found) desk = map item.Near found
items_left left (answer.Facts facts) desk = map item.Fact facts
items_left left (answer.More slot count) desk = map item.Stop (take count (slot_stops desk slot))
items_left left other desk = []

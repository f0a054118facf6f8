-- The replies to the lines of a slot are its own.
use Rattle.std.proofs.Common.{◌≡◌, ℕ, ◌==◌, true, false, List, [], ◌∷◌, length, set, refl, sym, ◌∙◌}
use Rattle.std.proofs.Common.{Option, Some, None, Result, Ok, Err, inl, inr, arith}
use mathlib.Core.Bool.{false≢true}
use Rattle.std.proofs.lemmas.Bool.{cases_Bool, cases_lt, eqb-false, eqb-true}
use Rattle.std.proofs.lemmas.List.{get_or-set_other, get_or-set_same, get_or_past, length-set}
use Rattle.track_types.specs.Chart.{ChartView}
use Rattle.track_types.specs.declared.facts.Facts.{Facts}
use Rattle.track_types.specs.declared.question.Question.{Question}
use Rattle.track_types.specs.declared.stop.Stop.{Stop}
use Rattle.question_shell.specs.Grammar.{question_of}
use Rattle.question_shell.specs.Items.{slot_items, stops_at}
use Rattle.question_shell.specs.Kinds.{items_in}
use Rattle.question_shell.specs.Replies.{turn_of}
use Rattle.question_shell.specs.Reply.{Turn, asked_turn, listed, slot_desk, slot_refusal}
use Rattle.question_shell.specs.Session.{AreIndependent, Meaning}
use Rattle.question_shell.specs.SlotParts.{OfNoSlot, SlotPart, ToDraw, ToEmpty, ToHold, slot_part}
use Rattle.question_shell.specs.Slots.{asks_slot, is_of_slot, lines_of_slot, replies_to_each, replies_to_slot}
use Rattle.question_shell.specs.declared.bad.Bad.{Bad}
use Rattle.question_shell.specs.declared.item.Item.{Item}

-- Two desks have as many places, and hold the same in that of a slot.
record AreAlike (slot : ℕ) (desk other : List (Option (List Stop))) : Type 0 where
  pub as_many : length desk ≡ length other
  pub same : stops_at desk slot ≡ stops_at other slot

-- The same is said, and the desks after it hold the same in the place of a slot.
record TurnAlike (slot : ℕ) (turn other : Turn) : Type 0 where
  pub text : turn.text ≡ other.text
  pub desk : AreAlike slot turn.desk other.desk

module _ (slot : ℕ) where
  -- another place is given something
  alike-other : (desk : List (Option (List Stop))) (held : ℕ) (place : Option (List Stop)) → (held == slot) ≡ false →
      AreAlike slot (set desk held place) desk
  alike-other desk held place differs = record {
    as_many = length-set desk held place;
    same = get_or-set_other desk held slot place None (λ same. eqb-false held slot differs (sym same));
  }

  -- both are given the same there
  alike-set : (desk other : List (Option (List Stop))) (place : Option (List Stop)) → AreAlike slot desk other →
      AreAlike slot (set desk slot place) (set other slot place)
  alike-set desk other place alike = record {
    as_many = length-set desk slot place ∙ (alike.as_many ∙ sym (length-set other slot place));
    same = elim (cases_lt slot (length desk)) [
      | inl below ↦
          get_or-set_same desk slot place None below
          ∙ sym (get_or-set_same other slot place None (omega (arith, below, alike.as_many)))
      | inr past ↦
          get_or_past (set desk slot place) slot None (omega (arith, past, length-set desk slot place))
          ∙ sym (get_or_past (set other slot place) slot None (omega (arith, past, alike.as_many, length-set other slot place)))
    ];
  }

module _ (chart : ChartView) (facts : Facts) (slot : ℕ) where
  -- what is asked of another slot leaves the place of this one as it is
  part-other : (desk : List (Option (List Stop))) (part : SlotPart) → is_of_slot slot part ≡ false →
      AreAlike slot (slot_desk chart desk part) desk
  part-other desk (ToHold held object from to) differs = alike-other slot desk held _ differs
  part-other desk (ToDraw held count) differs = alike-other slot desk held _ differs
  part-other desk (ToEmpty held) differs = alike-other slot desk held _ differs
  part-other desk OfNoSlot differs = record { as_many = refl; same = refl }

  -- what a line brings by what it asks of a slot
  abbrev part_turn : List Item → List (Option (List Stop)) → SlotPart → Turn
  part_turn found desk part = record {
    text = listed (slot_items found desk part) (slot_refusal desk part);
    desk = slot_desk chart desk part;
  }

  -- what is asked of the slot brings the same to desks that hold the same there
  part-alike : (found : List Item) (desk other : List (Option (List Stop))) (part : SlotPart) →
      is_of_slot slot part ≡ true → AreAlike slot desk other →
      TurnAlike slot (part_turn found desk part) (part_turn found other part)
  part-alike found desk other (ToHold held object from to) asks alike =
      rw (eqb-true held slot asks, alike.same) (record { text = refl; desk = alike-set slot desk other _ alike })
  part-alike found desk other (ToDraw held count) asks alike =
      rw (eqb-true held slot asks, alike.same) (record { text = refl; desk = alike-set slot desk other _ alike })
  part-alike found desk other (ToEmpty held) asks alike =
      rw (eqb-true held slot asks, alike.same) (record { text = refl; desk = alike-set slot desk other _ alike })
  part-alike found desk other OfNoSlot asks alike = absurd (false≢true asks)

  -- a line that asks nothing of the slot leaves its place as it is
  turn-other : (desk : List (Option (List Stop))) (asked : Result (Option Question) Bad) →
      asks_slot slot asked ≡ false → AreAlike slot (asked_turn chart facts desk asked).desk desk
  turn-other desk (Ok None) differs = record { as_many = refl; same = refl }
  turn-other desk (Ok (Some asked)) differs = part-other desk (slot_part asked) differs
  turn-other desk (Err bad) differs = record { as_many = refl; same = refl }

  -- a line that asks something of the slot brings the same to desks that hold the same there
  turn-alike : (desk other : List (Option (List Stop))) (asked : Result (Option Question) Bad) →
      asks_slot slot asked ≡ true → AreAlike slot desk other →
      TurnAlike slot (asked_turn chart facts desk asked) (asked_turn chart facts other asked)
  turn-alike desk other (Ok None) asks alike = absurd (false≢true asks)
  turn-alike desk other (Ok (Some asked)) asks alike =
      part-alike (items_in chart facts asked) desk other (slot_part asked) asks alike
  turn-alike desk other (Err bad) asks alike = absurd (false≢true asks)

  -- over two desks that hold the same in the slot's place
  replies-alike : (desk other : List (Option (List Stop))) (lines : List (List ℕ)) → AreAlike slot desk other →
      replies_to_slot chart facts desk slot lines ≡ replies_to_each chart facts other (lines_of_slot slot lines)
  unfolding replies_to_slot replies_to_each
  replies-alike desk other [] alike = refl
  replies-alike desk other (line ∷ lines) alike =
      let turn = turn_of chart facts desk line in
      elim (cases_Bool (asks_slot slot (question_of line))) [
        | inl asks ↦
            let both = turn-alike desk other (question_of line) asks alike in
            let later = replies-alike turn.desk (turn_of chart facts other line).desk lines both.desk in
            rw (asks, both.text, later) refl
        | inr passes ↦
            let left = turn-other desk (question_of line) passes in
            let here : AreAlike slot turn.desk other =
            record { as_many = left.as_many ∙ alike.as_many; same = left.same ∙ alike.same } in
            rw passes (replies-alike turn.desk other lines here)
      ]

-- the replies to the lines of each slot are those that these lines alone get from the same desk
pub slots-independent : (meaning : Meaning) (desk : List (Option (List Stop))) (lines : List (List ℕ)) →
    AreIndependent meaning desk lines
slots-independent meaning desk lines slot =
    replies-alike meaning.chart meaning.facts slot desk desk lines (record { as_many = refl; same = refl })

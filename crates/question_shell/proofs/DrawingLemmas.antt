-- An answer whose items are drawn, one after another.
use Rattle.std.proofs.Common.{◌≡◌, ℕ, ◌+◌, ◌<◌, ◌≤◌, false, List, [], ◌∷◌, ◌++◌, length, map, refl, sym, ap, ◌∙◌}
use Rattle.std.proofs.Common.{arith, append_assoc, append-nil, set, take, drop, subst, Result, Ok, Option, Some, None}
use Rattle.std.proofs.Common.{Bool, ℤ}
use Rattle.std.specs.Prelude.{if◌then◌else◌, is_some, option_map}
use Rattle.std.specs.List.{flat_map}
use Rattle.std.specs.Option.{option_map_or}
use Rattle.std.proofs.lemmas.Grind.{flat_map-append}
use Rattle.std.proofs.lemmas.List.{map-append, set-get_or, set-set, take-append-drop}
use Rattle.step_count.specs.Reads.{Read}
use Rattle.track_types.specs.ByFilter.{path_of}
use Rattle.track_types.specs.declared.question.Question.{Question}
use Rattle.track_types.specs.declared.question.Question.TheVariants as question
use Rattle.track_types.specs.declared.stop.Stop.{Stop}
use Rattle.question_shell.specs.Desk.{DeskView, Draws, budget_of, held_of, is_held_in, slot_walk, slot_stops}
use Rattle.question_shell.specs.Drawing.{AnswerNeeds, GivesItems, IsAnswer, IsOfDesk, desk_left, reads_left}
use Rattle.question_shell.specs.Items.{items_left, items_of, line_of, stops_at}
use Rattle.question_shell.specs.Drawing.{refusal_left}
use Rattle.question_shell.specs.Reply.{hold_cost, last_line, listed, refusal_of}
use Rattle.question_shell.specs.Says.{Cuts, Puts, Says, Voice, voice}
use Rattle.question_shell.specs.Session.{Meaning}
use Rattle.question_shell.specs.Turns.{Takes, TakesFront, moment}
use Rattle.question_shell.specs.declared.answer.Answer.{Answer}
use Rattle.question_shell.specs.declared.answer.Answer.TheVariants as answer
use Rattle.question_shell.specs.declared.item.Item.{Item}
use Rattle.question_shell.specs.declared.item.Item.TheVariants as item
use Rattle.question_shell.proofs.DeskLemmas.{budget_of-emptied, budget_of-set, draws-due, held_of-set, stops_at-held}
use Rattle.question_shell.proofs.SaysLemmas.{cuts-append, cuts-more, says-append, told-after}

module _ {W : Type 0} {left : W → List Stop} {budget : W → ℕ} where
  -- nothing was drawn yet
  pub gives-nothing : (now : Answer W) (desk : DeskView) (steps : ℕ) → IsOfDesk now →
      GivesItems left budget now now desk desk steps steps []
  gives-nothing now desk steps slot =
      record { slot = slot; items = refl; refusal = refl; held = refl; reads = omega arith }

  -- more was drawn
  pub gives-more : {first between now : Answer W} {desk here after : DeskView} {start middle end : ℕ}
      {done found : List Item} → GivesItems left budget first between desk here start middle done →
      GivesItems left budget between now here after middle end found →
      GivesItems left budget first now desk after start end (done ++ found)
  gives-more {now = now} {after = after} {done = done} {found = found} gives more = record {
    slot = more.slot;
    items = gives.items
        ∙ (ap (λ rest. done ++ rest) more.items ∙ sym (append_assoc done found (items_left left now after)));
    refusal = more.refusal ∙ gives.refusal;
    held = more.held ∙ gives.held;
    reads = omega (arith, gives.reads, more.reads);
  }

  -- a stop of a walk was drawn
  pub gives-stop : {walk now : W} {steps end : ℕ} (stop : Stop) → left walk ≡ stop ∷ left now →
      end + budget now ≤ steps + budget walk →
      GivesItems left budget (answer.Walk walk) (answer.Walk now) [] [] steps end (item.Stop stop ∷ [])
  gives-stop stop found cost = record {
    slot = tt;
    items = ap (map item.Stop) found;
    refusal = refl;
    held = refl;
    reads = omega (arith, cost);
  }

  -- an answer that was drawn whole brings what its question does
  module _ {meaning : Meaning} {asked : Question} {before desk : DeskView} {start end : ℕ} {answer : Answer W}
      (is : IsAnswer left budget meaning asked before start answer desk end) (said0 : List ℕ) (text0 : List ℕ)
    where
      same : listed (items_left left answer desk) (refusal_left answer)
          ≡ listed (items_of meaning.chart meaning.facts (held_of before) asked) (refusal_of (held_of before) asked)
      same = rw (is.items, is.refusal) refl

      pub takes-answer : (said : List ℕ) (text : List ℕ) (after : DeskView) (last : ℕ) →
          Says (voice said0 text0) (voice said text) (listed (items_left left answer desk) (refusal_left answer)) →
          held_of after ≡ desk_left left budget answer desk →
          last + budget_of after ≤ end + reads_left left budget answer desk →
          Takes meaning (moment said0 text0 before start) (moment said text after last) (Ok (Some asked))
      takes-answer said text after last says held reads = record {
        said = subst (λ (all : List ℕ). Says (voice said0 text0) (voice said text) all) same says;
        desk = held ∙ is.held;
        reads = omega (arith, reads, is.reads);
      }

      pub front-answer : (said : List ℕ) (text : List ℕ) (after : DeskView) (last : ℕ) →
          Cuts (voice said0 text0) said (listed (items_left left answer desk) (refusal_left answer)) →
          last + budget_of after ≤ end + reads_left left budget answer desk →
          TakesFront meaning (moment said0 text0 before start) (moment said text after last) (Ok (Some asked))
      front-answer said text after last cuts reads = record {
        said = subst (λ (all : List ℕ). Cuts (voice said0 text0) said all) same cuts;
        reads = omega (arith, reads, is.reads);
      }

-- the lines of items that were drawn, and one more
module _ (start between : Voice) (done : List Item) (found : Item) (line : List ℕ) (is : line ≡ line_of found)
    (says : Says start between (flat_map line_of done))
  where
    lines-next : flat_map line_of (done ++ found ∷ []) ≡ flat_map line_of done ++ line
    lines-next = flat_map-append line_of done (found ∷ [])
        ∙ ap (λ text. flat_map line_of done ++ text) (append-nil (line_of found) ∙ sym is)

    -- was said
    pub says-next : (now : Voice) → Says between now line → Says start now (flat_map line_of (done ++ found ∷ []))
    says-next now next =
        rw lines-next (says-append start between now (flat_map line_of done) line says next)

    -- was cut
    pub cuts-next : (now : List ℕ) (items rest : List Item) (refusal : Option (List ℕ)) → Cuts between now line →
        items ≡ (done ++ found ∷ []) ++ rest → Cuts start now (listed items refusal)
    unfolding listed
    cuts-next now items rest refusal cuts cut =
        let lines : flat_map line_of items ≡ (flat_map line_of done ++ line) ++ flat_map line_of rest =
        ap (flat_map line_of) cut
        ∙ (flat_map-append line_of (done ++ found ∷ []) rest ∙ ap (λ text. text ++ flat_map line_of rest) lines-next) in
        rw lines (cuts-more start now _ (last_line refusal (length items))
        (cuts-more start now (flat_map line_of done ++ line) (flat_map line_of rest)
        (cuts-append start between now (flat_map line_of done) line says cuts)))

-- the last line, where no item is left
pub told-last : {T E : Type 0} (start between now : Voice) (done items rest : List Item) (refusal : Option (List ℕ))
    (line : List ℕ) (result : Result T E) → items ≡ done ++ rest → rest ≡ [] → line ≡ last_line refusal (length done) →
    Says start between (flat_map line_of done) → Puts between now line result →
    Puts start now (listed items refusal) result
unfolding listed
told-last start between now done items rest refusal line result cut none is =
    let all : items ≡ done = cut ∙ (ap (λ rest. done ++ rest) none ∙ append-nil done) in
    told-after start between now (flat_map line_of done) line _ result
    (rw (all, is) refl)

-- what is left in a slot after so many were drawn
module _ (desk : DeskView) (slot : ℕ) where
  pub dropped : (count : ℕ) → option_map (drop count) (stops_at (held_of desk) slot)
      ≡ (if is_held_in desk slot then Some (drop count (slot_stops desk slot)) else None)
  dropped count = ap (option_map (drop count)) (stops_at-held desk slot) ∙ by_place (slot_walk desk slot)
    where
      by_place : (place : Option (List Stop × ℕ)) → option_map (drop count) (option_map (λ walk. walk.0) place)
          ≡ (if is_some place then Some (drop count (option_map_or (λ walk. walk.0) place [])) else None)
      by_place None = refl
      by_place (Some walk) = refl

  pub kept : stops_at (held_of desk) slot ≡ (if is_held_in desk slot then Some (slot_stops desk slot) else None)
  kept = stops_at-held desk slot ∙ by_place (slot_walk desk slot)
    where
      by_place : (place : Option (List Stop × ℕ)) → option_map (λ walk. walk.0) place
          ≡ (if is_some place then Some (option_map_or (λ walk. walk.0) place []) else None)
      by_place None = refl
      by_place (Some walk) = refl

-- the desk and an answer that draws from a slot of it
module _ {W : Type 0} (left : W → List Stop) (budget : W → ℕ) (desk : DeskView) (slot : ℕ) where
  pub held-drawn : (now : DeskView) (many few start end : ℕ) → Draws desk now slot start end →
      drop few (slot_stops now slot) ≡ drop many (slot_stops desk slot) →
      desk_left left budget (answer.More slot few) now ≡ desk_left left budget (answer.More slot many) desk
  held-drawn now many few start end draws same =
      let after = option_map (drop few) (stops_at (held_of now) slot) in
      let is : after ≡ option_map (drop many) (stops_at (held_of desk) slot) =
      dropped now slot few ∙ rw (draws.held, same) (sym (dropped desk slot many)) in
      ap (λ held. set held slot after) (ap held_of draws.others ∙ held_of-set desk slot (slot_walk now slot))
      ∙ (set-set (held_of desk) slot (option_map (λ walk. walk.0) (slot_walk now slot)) after
      ∙ ap (set (held_of desk) slot) is)

  -- nothing is left to draw
  pub held-same : (count : ℕ) → take count (slot_stops desk slot) ≡ [] →
      desk_left left budget (answer.More slot count) desk ≡ held_of desk
  held-same count none =
      let all : drop count (slot_stops desk slot) ≡ slot_stops desk slot =
      sym (ap (λ front. front ++ drop count (slot_stops desk slot)) none) ∙ take-append-drop count (slot_stops desk slot) in
      let is : option_map (drop count) (stops_at (held_of desk) slot) ≡ stops_at (held_of desk) slot =
      dropped desk slot count ∙ rw all (sym (kept desk slot)) in
      ap (set (held_of desk) slot) is ∙ set-get_or (held_of desk) slot None

-- stops of a slot were drawn
pub gives-drawn : {W : Type 0} (left : W → List Stop) (budget : W → ℕ) (desk now : DeskView)
    (slot many few start end : ℕ) (found : List Stop) → slot < 16 → Draws desk now slot start end →
    drop few (slot_stops now slot) ≡ drop many (slot_stops desk slot) →
    take many (slot_stops desk slot) ≡ found ++ take few (slot_stops now slot) →
    GivesItems left budget (answer.More slot many) (answer.More slot few) desk now start end (map item.Stop found)
gives-drawn left budget desk now slot many few start end found below draws same cut = record {
  slot = below;
  items = ap (map item.Stop) cut ∙ map-append item.Stop found (take few (slot_stops now slot));
  refusal = refl;
  held = held-drawn left budget desk slot now many few start end draws same;
  reads = omega (arith, draws-due desk now slot start end draws);
}

-- what a question for a slot brings, by whether the slot is held
module _ {W : Type 0} (left : W → List Stop) (budget : W → ℕ) (meaning : Meaning) (desk : DeskView) (slot steps : ℕ)
  where
    empty-stops : is_held_in desk slot ≡ false → stops_at (held_of desk) slot ≡ None
    empty-stops fails = kept desk slot ∙ rw fails refl

    -- an empty one holds a walk over the path
    pub answer-hold : (object : ℕ) (from to : ℤ) (walk : List Stop × ℕ) (now : DeskView) → slot < length desk →
        is_held_in desk slot ≡ false → now ≡ set desk slot (Some walk) → walk.0 ≡ path_of meaning.chart.rows object from to →
        walk.1 ≤ meaning.cost (question.Path object from to) →
        IsAnswer left budget meaning (question.Hold slot object from to) desk steps answer.Done now steps
    answer-hold object from to walk now inside fails is path within = record {
      slot = tt;
      items = refl;
      few = omega arith;
      refusal = rw (empty-stops fails) refl;
      held = ap held_of is ∙ (held_of-set desk slot (Some walk) ∙ rw (empty-stops fails, path) refl);
      reads = omega (
        arith,
        within,
        budget_of-set desk slot (Some walk) inside,
        ap budget_of is,
        ap (hold_cost (meaning.cost (question.Path object from to))) (empty-stops fails),
      );
    }

    -- a held one is emptied
    pub answer-freed : (walk : List Stop × ℕ) (now : DeskView) → slot_walk desk slot ≡ Some walk →
        now ≡ set desk slot None →
        IsAnswer left budget meaning (question.Free slot) desk steps answer.Done now steps
    answer-freed walk now place is = record {
      slot = tt;
      items = refl;
      few = omega arith;
      refusal = rw (stops_at-held desk slot, place) refl;
      held = ap held_of is ∙ held_of-set desk slot None;
      reads = omega (arith, ap budget_of is, budget_of-emptied desk slot);
    }

    -- an empty one is not
    pub answer-empty : (now : DeskView) → slot_walk desk slot ≡ None → now ≡ set desk slot None →
        IsAnswer left budget meaning (question.Free slot) desk steps answer.Free now steps
    answer-empty now place is =
        let same : now ≡ desk = is ∙ (ap (set desk slot) (sym place) ∙ set-get_or desk slot None) in
        record {
          slot = tt;
          items = refl;
          few = omega arith;
          refusal = rw (stops_at-held desk slot, place) refl;
          held = ap held_of is ∙ held_of-set desk slot None;
          reads = omega (arith, ap budget_of same);
        }

module _ {W : Type 0} {needs : W → Read → Bool} where
  -- no more is needed where nothing was drawn yet
  pub needs-nothing : (now : Answer W) (walks : List (Option W)) → AnswerNeeds needs now now walks walks
  needs-nothing now walks = record { own = λ read is. is; desk = λ slot read is. is }

  -- or more was drawn
  pub needs-more : {first between now : Answer W} {walks here after : List (Option W)} →
      AnswerNeeds needs first between walks here → AnswerNeeds needs between now here after →
      AnswerNeeds needs first now walks after
  needs-more one two = record {
    own = λ read is. one.own read (two.own read is);
    desk = λ slot read is. one.desk slot read (two.desk slot read is);
  }

-- One turn of a walk over two blocks, on what is left of either: lists of stops and of rule nodes.
use Rattle.std.proofs.Common.{◌≡◌, ℕ, ◌+◌, ◌*◌, ◌≤◌, ℤ, pos, ◌+ℤ◌, ◌-ℤ◌, ◌≤ℤ◌, ◌<ℤ◌, Bool, true, false, List, [], ◌∷◌, ◌++◌, map, Option, Some, None, refl, ap, sym, subst, ◌∙◌, arith, All, IsTrue, inl, inr}
use Rattle.std.specs.Prelude.{get_or, nat_le, unsigned_abs}
use Rattle.std.specs.Int.{int_max, int_min}
use Rattle.std.specs.Int.Signed.{le_z}
use Rattle.std.specs.List.{list_any}
use Rattle.std.specs.Str.{bytes_eq}
use Rattle.std.specs.Option.{is_some}
use Rattle.std.specs.Ordering.{int_eq}
use Rattle.std.proofs.Math.Nat.{mul-le-mul}
use Rattle.std.proofs.lemmas.Bool.{and_from, and_parts, cases_Bool, le-leb, leb-true}
use Rattle.std.proofs.lemmas.Int.{clamps, ints}
use Rattle.std.proofs.lemmas.List.Elements.{All-append}
use Rattle.track_types.specs.Region.{in_box, is_between, squared_distance, squared_gap}
use Rattle.track_types.specs.declared.cell.Cell.{Cell}
use Rattle.track_types.specs.declared.cell_box.CellBox.{CellBox}
use Rattle.track_types.specs.declared.stop.Stop.{Stop}
use Rattle.track_types.proofs.RegionLemmas.{in_box-bounds}
use Rattle.rule_store.specs.Boxes.{box_round}
use Rattle.rule_store.specs.Log.{stop_at}
use Rattle.track_types.specs.Meeting.{pairs_of}
use Rattle.rule_store.specs.Expansion.{expansion_of}
use Rattle.log_cursor.specs.Needs.{RulesWithin}
use Rattle.encounter.specs.Window.{have_met, meeting_among}
use Rattle.encounter.specs.Span.{Span, BlockTree, are_common, are_near, box_distance, close_count, close_rule, gap_of, is_close, tree_nodes, span_at}
use Rattle.encounter.specs.Party.{IsStopInside, OpensNode, IsPassed, PartyView, Tells, is_in_area, remaining}
use Rattle.encounter.specs.Turn.{Finds, GoesOn, Parties, parties, rule_ahead}
use Rattle.encounter.proofs.PairLemmas.{Apart, first_pair-apart, first_pair-found, first_pair-left, first_pair-right}
use Rattle.encounter.proofs.CloseLemmas.{close_rule-left, close_rule-left_first, close_rule-left_opened, close_rule-right, close_rule-right_first, close_rule-right_opened}
use Rattle.encounter.proofs.CountLemmas.{any-rule, any-stop, close_count-left, close_count-left_opened, close_count-right, close_count-right_opened}

-- two boxes are no farther apart than two of their cells
gap_of-least : (low high first last p q : ℤ) → low ≤ℤ p → p ≤ℤ high → first ≤ℤ q → q ≤ℤ last →
    gap_of low high first last ≤ unsigned_abs (p -ℤ q)
gap_of-least low high first last p q a b c d = omega (arith, ints, clamps)

box_distance-least : (area other : CellBox) (p q : Cell) → in_box area p ≡ true → in_box other q ≡ true →
    box_distance area other ≤ squared_distance p q
box_distance-least area other p q here there =
    let one = in_box-bounds area p here in
    let two = in_box-bounds other q there in
    let x = gap_of-least area.x1 area.x2 other.x1 other.x2 p.x q.x one.left one.right two.left two.right in
    let y = gap_of-least area.y1 area.y2 other.y1 other.y2 p.y q.y one.below one.above two.below two.above in
    let columns : gap_of area.x1 area.x2 other.x1 other.x2 * gap_of area.x1 area.x2 other.x1 other.x2
    ≤ squared_gap p.x q.x = mul-le-mul x x in
    let lines : gap_of area.y1 area.y2 other.y1 other.y2 * gap_of area.y1 area.y2 other.y1 other.y2
    ≤ squared_gap p.y q.y = mul-le-mul y y in
    omega (arith, columns, lines)

near-from : (reach : ℕ) (one other : Option CellBox) (p q : Cell) → is_in_area one p ≡ true → is_in_area other q ≡ true →
    nat_le (squared_distance p q) (reach * reach) ≡ true → are_near reach one other ≡ true
near-from reach None other p q here there near = absurd (cc)
near-from reach (Some area) None p q here there near = absurd (cc)
near-from reach (Some area) (Some box) p q here there near =
    let least = box_distance-least area box p q here there in
    let short = leb-true _ _ near in
    le-leb _ _ (omega (arith, least, short))

common-from : (from to b1 b2 e1 e2 z : ℤ) → from ≤ℤ z → z ≤ℤ to → b1 <ℤ z → b2 <ℤ z → z ≤ℤ e1 → z ≤ℤ e2 →
    le_z (int_max from (int_max b1 b2 +ℤ pos 1)) (int_min to (int_min e1 e2)) ≡ true
common-from from to b1 b2 e1 e2 z p q r s t u = grind (arith, ints, clamps)

module _ (from to : ℤ) (reach : ℕ) where
  -- what a meeting of two stops says
  record Met (left right : Stop) : Type 0 where
    low : from ≤ℤ left.instant
    high : left.instant ≤ℤ to
    same : left.instant ≡ right.instant
    near : nat_le (squared_distance left.cell right.cell) (reach * reach) ≡ true

  met-parts : (left right : Stop) → have_met from to reach left right ≡ true → Met left right
  met-parts left right met = record {
    low = grind (arith, ints);
    high = grind (arith, ints);
    same = grind (arith, ints);
    near = grind (arith, ints);
  }

  -- a meeting in two nodes makes them close
  close-from : (one other : Span) (left right : Stop) → IsStopInside one left → IsStopInside other right →
      have_met from to reach left right ≡ true → is_close from to reach one other ≡ true
  close-from one other left right here there met =
      let m = met-parts left right met in
      and_from _ _
      (common-from from to one.begin other.begin one.end other.end left.instant m.low m.high here.after
      (omega (arith, ints, there.after, m.same)) here.before (omega (arith, ints, there.before, m.same)))
      (near-from reach one.area other.area left.cell right.cell here.cell there.cell m.near)

  unmet : (left right : Stop) → (have_met from to reach left right ≡ true → ⊥) → have_met from to reach left right ≡ false
  unmet left right never = elim (cases_Bool (have_met from to reach left right)) [
    | inl met ↦ absurd (never met)
    | inr apart ↦ apart
  ]

  -- two nodes that are not close
  module _ (one other : Span) (apart : is_close from to reach one other ≡ false) where
    nodes-apart : (lefts rights : List Stop) → All (IsStopInside one) lefts → All (IsStopInside other) rights →
        Apart (have_met from to reach) lefts rights
    nodes-apart lefts rights here there k d within i e inside =
        unmet (get_or lefts k d) (get_or rights i e) (λ met.
        let close = close-from one other (get_or lefts k d) (get_or rights i e) (here k d within) (there i e inside) met in
        absurd (cc))

  -- stops of which one is always before the other
  earlier-apart : (lefts rights : List Stop) (z : ℤ) → All (λ stop. stop.instant ≤ℤ z) lefts →
      All (λ stop. z <ℤ stop.instant) rights → Apart (have_met from to reach) lefts rights
  earlier-apart lefts rights z here there k d within i e inside =
      unmet (get_or lefts k d) (get_or rights i e) (λ met.
      let m = met-parts (get_or lefts k d) (get_or rights i e) met in
      let low = here k d within in
      let high = there i e inside in
      absurd (omega (arith, ints, m.same, low, high)))

  later-apart : (lefts rights : List Stop) (z : ℤ) → All (λ stop. z <ℤ stop.instant) lefts →
      All (λ stop. stop.instant ≤ℤ z) rights → Apart (have_met from to reach) lefts rights
  later-apart lefts rights z here there k d within i e inside =
      unmet (get_or lefts k d) (get_or rights i e) (λ met.
      let m = met-parts (get_or lefts k d) (get_or rights i e) met in
      let low = here k d within in
      let high = there i e inside in
      absurd (omega (arith, ints, m.same, low, high)))

  module _ (left right : PartyView) (tells : Tells left) (told : Tells right) where
    -- the first of two nodes that are not close ends first
    first-apart : is_close from to reach left.top right.top ≡ false → left.top.end ≤ℤ right.top.end →
        Apart (have_met from to reach) left.own.stops (remaining right).stops
    first-apart apart sooner k d within =
        All-append (λ r. have_met from to reach (get_or left.own.stops k d) r ≡ false) right.own.stops right.later.stops
        (nodes-apart left.top right.top apart left.own.stops right.own.stops tells.inside told.inside k d within)
        (earlier-apart left.own.stops right.later.stops right.top.end
        (λ i e inside. let its = (tells.inside i e inside).before in omega (arith, ints, its, sooner)) told.later k d within)

    second-apart : is_close from to reach left.top right.top ≡ false → right.top.end ≤ℤ left.top.end →
        Apart (have_met from to reach) (remaining left).stops right.own.stops
    second-apart apart sooner =
        All-append (λ l. All (λ r. have_met from to reach l r ≡ false) right.own.stops) left.own.stops left.later.stops
        (nodes-apart left.top right.top apart left.own.stops right.own.stops tells.inside told.inside)
        (later-apart left.later.stops right.own.stops left.top.end tells.later
        (λ i e inside. let its = (told.inside i e inside).before in omega (arith, ints, its, sooner)))

  -- the next node of a block is one of its nodes
  top-in : (test : Span → Bool) (party : PartyView) → Tells party → is_some party.top.area ≡ true → test party.top ≡ true →
      list_any test (tree_nodes (remaining party)) ≡ true
  top-in test party tells some holds = elim (cases_Bool party.opens) [
    | inl rule ↦
        let first = tells.rule rule in
        subst (λ rules. list_any test (map span_at (remaining party).stops ++ rules) ≡ true) (sym first.is)
        (any-rule test party.top (remaining party).stops first.rest holds)
    | inr leaf ↦
        let its = tells.leaf leaf some in
        let stop = stop_at party.top.end party.cell in
        subst (λ stops. list_any test (map span_at (stops ++ party.later.stops) ++ (party.own.rules ++ party.later.rules))
        ≡ true) (sym its.0)
        (any-stop test stop party.later.stops (party.own.rules ++ party.later.rules)
        (ap test (sym its.1) ∙ holds))
  ]

  both-some : (one other : Option CellBox) → are_near reach one other ≡ true →
      (is_some one ≡ true) × (is_some other ≡ true)
  both-some None other near = absurd (cc)
  both-some (Some area) None near = absurd (cc)
  both-some (Some area) (Some box) near = (refl, refl)

  gap_of-one : (p q : ℤ) → gap_of p p q q ≡ unsigned_abs (p -ℤ q)
  gap_of-one p q = omega (arith, ints, clamps)

  -- two stops that are close are a meeting
  met-leaf : (left right : Stop) → is_close from to reach (span_at left) (span_at right) ≡ true →
      have_met from to reach left right ≡ true
  unfolding box_round
  met-leaf left right close =
      let parts = and_parts (are_common from to (span_at left) (span_at right))
      (are_near reach (span_at left).area (span_at right).area) close in
      let low : is_between from to left.instant ≡ true = grind (arith, ints, clamps, parts.0) in
      let same : int_eq left.instant right.instant ≡ true = grind (arith, ints, clamps, parts.0) in
      let near : nat_le (squared_distance left.cell right.cell) (reach * reach) ≡ true =
      subst (λ n. nat_le (squared_gap left.cell.x right.cell.x + n * n) (reach * reach) ≡ true)
      (gap_of-one left.cell.y right.cell.y)
      (subst (λ n. nat_le (n * n + gap_of left.cell.y left.cell.y right.cell.y right.cell.y
      * gap_of left.cell.y left.cell.y right.cell.y right.cell.y) (reach * reach) ≡ true)
      (gap_of-one left.cell.x right.cell.x) parts.1) in
      and_from _ _ low (and_from _ _ same near)

  -- the rule that was opened, and its parts
  opened-tree : (old new : PartyView) → OpensNode old new →
      record { stops = (remaining new).stops; rules = old.top ∷ (remaining new).rules } ≡ remaining old
  opened-tree old new opened =
      ap {B = BlockTree} (λ stops. record { stops = stops; rules = old.top ∷ (remaining new).rules }) opened.stops
      ∙ ap {B = BlockTree} (λ rules. record { stops = (remaining old).stops; rules = rules }) (sym opened.rules)

  module _ (left right : PartyView) (tells : Tells left) (told : Tells right) (steps : ℕ) where
    abbrev here : Parties
    here = parties left right steps

    -- the next node of the left block is passed, where it ends first
    module _ (apart : is_close from to reach left.top right.top ≡ false) (sooner : left.top.end ≤ℤ right.top.end) where
      pub passed-left : (new : PartyView) (reads : ℕ) → IsPassed left new → reads + new.unread ≤ steps + left.unread →
          GoesOn from to reach here (parties new right reads)
      unfolding meeting_among
      passed-left new reads passed cost =
          let none = first-apart left right tells told apart sooner in
          let fewer = close_count-left from to reach left.own left.later (remaining right) in
          let same : close_count from to reach (remaining new) (remaining right)
          ≡ close_count from to reach left.later (remaining right) =
          ap (λ t. close_count from to reach t (remaining right)) passed.rest in
          record {
            same = first_pair-left (have_met from to reach) left.own.stops left.later.stops (remaining right).stops none
                ∙ ap (λ (t : BlockTree). meeting_among from to reach t.stops (remaining right).stops) (sym passed.rest);
            reads = omega (arith, fewer, same, cost);
            within = rw passed.grammar (subst (λ (t : BlockTree). RulesWithin
                (close_rule left.rules from to reach t (remaining right)) (rule_ahead from to reach left right))
                (sym passed.rest) (close_rule-left left.rules from to reach left.own left.later (remaining right)));
            fewer = omega (arith, passed.fewer);
          }

      pub ended-left : (new : PartyView) (reads : ℕ) → left.later.stops ≡ [] → reads + new.unread ≤ steps + left.unread →
          Finds from to reach here (parties new right reads) None
      unfolding meeting_among pairs_of
      ended-left new reads end cost =
          let none = first-apart left right tells told apart sooner in
          record {
            is = first_pair-left (have_met from to reach) left.own.stops left.later.stops (remaining right).stops none
                ∙ ap (λ stops. meeting_among from to reach stops (remaining right).stops) end
                ∙ nothing (remaining right).stops;
            reads = omega (arith, cost);
          }
        where
          nothing : (rights : List Stop) → meeting_among from to reach [] rights ≡ None
          nothing rights = refl

    -- so is that of the right block
    module _ (apart : is_close from to reach left.top right.top ≡ false) (sooner : right.top.end ≤ℤ left.top.end) where
      pub passed-right : (new : PartyView) (reads : ℕ) → IsPassed right new → reads + new.unread ≤ steps + right.unread →
          GoesOn from to reach here (parties left new reads)
      unfolding meeting_among
      passed-right new reads passed cost =
          let none = second-apart left right tells told apart sooner in
          let fewer = close_count-right from to reach (remaining left) right.own right.later in
          let same : close_count from to reach (remaining left) (remaining new)
          ≡ close_count from to reach (remaining left) right.later =
          ap (λ t. close_count from to reach (remaining left) t) passed.rest in
          record {
            same = first_pair-right (have_met from to reach) (remaining left).stops right.own.stops right.later.stops none
                ∙ ap (λ (t : BlockTree). meeting_among from to reach (remaining left).stops t.stops) (sym passed.rest);
            reads = omega (arith, fewer, same, cost);
            within = subst (λ (t : BlockTree). RulesWithin (close_rule left.rules from to reach (remaining left) t)
                (rule_ahead from to reach left right)) (sym passed.rest)
                (close_rule-right left.rules from to reach (remaining left) right.own right.later);
            fewer = omega (arith, passed.fewer);
          }

      pub ended-right : (new : PartyView) (reads : ℕ) → right.later.stops ≡ [] → reads + new.unread ≤ steps + right.unread →
          Finds from to reach here (parties left new reads) None
      unfolding meeting_among
      ended-right new reads end cost =
          let none = second-apart left right tells told apart sooner in
          record {
            is = first_pair-right (have_met from to reach) (remaining left).stops right.own.stops right.later.stops none
                ∙ ap (λ stops. meeting_among from to reach (remaining left).stops stops) end
                ∙ first_pair-apart (have_met from to reach) (remaining left).stops []
                (λ k d within i e inside. absurd (omega (arith, inside)));
            reads = omega (arith, cost);
          }

    -- a rule is opened, where it is close to the next node of the other block
    module _ (close : is_close from to reach left.top right.top ≡ true) where
      near : (is_some left.top.area ≡ true) × (is_some right.top.area ≡ true)
      near = both-some left.top.area right.top.area (and_parts (are_common from to left.top right.top)
          (are_near reach left.top.area right.top.area) close).1

      pub opened-left : (new : PartyView) (reads : ℕ) → OpensNode left new →
          reads + new.unread ≤ steps + 1 + left.unread →
          GoesOn from to reach here (parties new right reads)
      opened-left new reads opened cost =
          let old = remaining left in
          let now = remaining new in
          let fewer = close_count-left_opened from to reach left.top now.stops now.rules (remaining right)
          (top-in (is_close from to reach left.top) right told near.1 close) in
          let same : close_count from to reach old (remaining right)
          ≡ close_count from to reach (record { stops = now.stops; rules = left.top ∷ now.rules }) (remaining right) =
          ap (λ stops. close_count from to reach (record { stops = stops; rules = old.rules }) (remaining right))
          (sym opened.stops)
          ∙ ap (λ rules. close_count from to reach (record { stops = now.stops; rules = rules }) (remaining right))
          opened.rules in
          record {
            same = ap (λ stops. meeting_among from to reach stops (remaining right).stops) (sym opened.stops);
            reads = omega (arith, fewer, same, cost);
            within = rw opened.grammar (subst (λ (t : BlockTree). RulesWithin
                (close_rule left.rules from to reach now (remaining right))
                (close_rule left.rules from to reach t (remaining right))) (opened-tree left new opened)
                (close_rule-left_opened left.rules from to reach left.top now.stops now.rules (remaining right)));
            fewer = omega (arith, opened.fewer);
          }

      pub opened-right : (new : PartyView) (reads : ℕ) → OpensNode right new →
          reads + new.unread ≤ steps + 1 + right.unread →
          GoesOn from to reach here (parties left new reads)
      opened-right new reads opened cost =
          let old = remaining right in
          let now = remaining new in
          let fewer = close_count-right_opened from to reach (remaining left) right.top now.stops now.rules
          (top-in (λ other. is_close from to reach other right.top) left tells near.0 close) in
          let same : close_count from to reach (remaining left) old
          ≡ close_count from to reach (remaining left) (record { stops = now.stops; rules = right.top ∷ now.rules }) =
          ap (λ stops. close_count from to reach (remaining left) (record { stops = stops; rules = old.rules }))
          (sym opened.stops)
          ∙ ap (λ rules. close_count from to reach (remaining left) (record { stops = now.stops; rules = rules }))
          opened.rules in
          record {
            same = ap (λ stops. meeting_among from to reach (remaining left).stops stops) (sym opened.stops);
            reads = omega (arith, fewer, same, cost);
            within = subst (λ (t : BlockTree). RulesWithin (close_rule left.rules from to reach (remaining left) now)
                (close_rule left.rules from to reach (remaining left) t)) (opened-tree right new opened)
                (close_rule-right_opened left.rules from to reach (remaining left) right.top now.stops now.rules);
            fewer = omega (arith, opened.fewer);
          }

      -- that rule is one of those that are close to a node of the other block
      pub named-left : left.opens ≡ true → (rule : ℕ) → IsTrue (bytes_eq (expansion_of left.rules rule) left.top.inside) →
          IsTrue (rule_ahead from to reach left right rule)
      named-left opens rule is =
          let first = tells.rule opens in
          let stops = (remaining left).stops in
          subst (λ nodes. IsTrue (close_rule left.rules from to reach (record { stops = stops; rules = nodes })
          (remaining right) rule)) (sym first.is)
          (close_rule-left_first left.rules from to reach left.top stops first.rest (remaining right)
          (top-in (is_close from to reach left.top) right told near.1 close) rule is)

      pub named-right : left.rules ≡ right.rules → right.opens ≡ true → (rule : ℕ) →
          IsTrue (bytes_eq (expansion_of right.rules rule) right.top.inside) →
          IsTrue (rule_ahead from to reach left right rule)
      named-right same opens rule is =
          let first = told.rule opens in
          let stops = (remaining right).stops in
          subst (λ nodes. IsTrue (close_rule left.rules from to reach (remaining left)
          (record { stops = stops; rules = nodes }) rule)) (sym first.is)
          (close_rule-right_first left.rules from to reach (remaining left) right.top stops first.rest
          (top-in (λ other. is_close from to reach other right.top) left tells near.0 close) rule (rw same is))

    -- the window ends before either next node
    after-begin : (party : PartyView) → Tells party → All (λ stop. party.top.begin <ℤ stop.instant) (remaining party).stops
    after-begin party its =
        All-append (λ stop. party.top.begin <ℤ stop.instant) party.own.stops party.later.stops
        (λ k d within. (its.inside k d within).after)
        (λ k d within. let behind = its.later k d within in omega (arith, ints, behind, its.ordered))

    pub over-left : to ≤ℤ left.top.begin → (new : Parties) → new.steps ≤ steps → Finds from to reach here new None
    unfolding meeting_among
    over-left over new cost =
        let lefts = (remaining left).stops in
        let rights = (remaining right).stops in
        record {
          is = first_pair-apart (have_met from to reach) lefts rights (λ k d within i e inside.
              unmet (get_or lefts k d) (get_or rights i e) (λ met.
              let m = met-parts (get_or lefts k d) (get_or rights i e) met in
              let late = after-begin left tells k d within in
              absurd (omega (arith, ints, m.high, late, over))));
          reads = omega (arith, cost);
        }

    pub over-right : to ≤ℤ right.top.begin → (new : Parties) → new.steps ≤ steps → Finds from to reach here new None
    unfolding meeting_among
    over-right over new cost =
        let lefts = (remaining left).stops in
        let rights = (remaining right).stops in
        record {
          is = first_pair-apart (have_met from to reach) lefts rights (λ k d within i e inside.
              unmet (get_or lefts k d) (get_or rights i e) (λ met.
              let m = met-parts (get_or lefts k d) (get_or rights i e) met in
              let late = after-begin right told i e inside in
              absurd (omega (arith, ints, m.high, m.same, late, over))));
          reads = omega (arith, cost);
        }

    -- neither is a rule
    pub found-both : is_close from to reach left.top right.top ≡ true → left.opens ≡ false → right.opens ≡ false →
        (new : Parties) → new.steps ≤ steps →
        Finds from to reach here new (Some (stop_at left.top.end left.cell, stop_at right.top.end right.cell))
    unfolding meeting_among
    found-both close one other new cost =
        let some = both-some left.top.area right.top.area (and_parts (are_common from to left.top right.top)
        (are_near reach left.top.area right.top.area) close).1 in
        let its = tells.leaf one some.0 in
        let their = told.leaf other some.1 in
        let first = stop_at left.top.end left.cell in
        let second = stop_at right.top.end right.cell in
        let leaves : is_close from to reach (span_at first) (span_at second) ≡ true =
        ap (λ s. is_close from to reach s (span_at second)) (sym its.1)
        ∙ ap (λ s. is_close from to reach left.top s) (sym their.1) ∙ close in
        record {
          is = ap (λ stops. meeting_among from to reach (stops ++ left.later.stops) (remaining right).stops) its.0
              ∙ ap (λ stops. meeting_among from to reach (first ∷ left.later.stops) (stops ++ right.later.stops)) their.0
              ∙ first_pair-found (have_met from to reach) first second left.later.stops right.later.stops
              (met-leaf first second leaves);
          reads = omega (arith, cost);
        }

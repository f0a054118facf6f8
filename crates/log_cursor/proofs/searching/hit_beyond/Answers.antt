use Rattle.std.proofs.lemmas.Grind.{common_steps}
use Rattle.std.proofs.Common.{◌≡◌, ℕ, ◌+◌, ◌<◌, ◌≤◌, ℤ, ◌≤ℤ◌, ◌<ℤ◌, Bool, true, IsTrue, List, [], length, Option, refl, subst, sym, ◌∙◌, arith, rules, w64, inl, inr}
use Rattle.std.specs.Option.{is_some}
use Rattle.std.proofs.lemmas.Bool.{leb-false, leb-true}
use Rattle.std.proofs.lemmas.Int.{ints, to_z-of_z}
use Rattle.track_types.specs.declared.cell.Cell.{Cell}
use Rattle.track_types.specs.declared.cell_box.CellBox.{CellBox}
use Rattle.track_types.specs.declared.region.Region.{Region}
use Rattle.track_types.specs.declared.stop.Stop.{Stop}
use Rattle.step_count.specs.Reads.{ofRule, ofSymbol}
use Rattle.rule_store.specs.View.{RulesView}
use Rattle.rule_store.specs.Needs.{is_among}
use Rattle.rule_store.specs.Log.{stop_at}
use Rattle.log_cursor.specs.Opened.{Has}
use Rattle.log_cursor.specs.Pending.{PendingView}
use Rattle.log_cursor.specs.Start.{IsWayOf}
use Rattle.log_cursor.specs.Touching.{IsHitOf, touches_at}
use Rattle.log_cursor.specs.Turn.{IsWalking, has_hull, is_stop_in, opening_count}
use Rattle.log_cursor.specs.Walk.{stops_left}
use Rattle.log_cursor.specs.declared.start.Start.{Start}
use Rattle.log_cursor.proofs.StopLemmas.{word}
use Rattle.log_cursor.proofs.HitLemmas.{outside-along, touches_at-some}
use Rattle.log_cursor.proofs.OpenedLemmas.{AreGoneOver-none, turn-again, turn-kept, turn-passed}
use Rattle.log_cursor.proofs.TouchLemmas.{opened_left-count, touching_left-count, touching_rule-from, touching_rule-to}
use Rattle.log_cursor.proofs.TurnLemmas.{IsTurn, find-passed, taken-near, taken-next, turn-fewer, turn-held, turn-hull, turn-opened, turn-opened-fewer, turn-opened-rules, turn-own, turn-reads, turn-rules, turn-rules-left, turn-stop, turn-way, walking-end, walking-over}
use Rattle.log_cursor.proofs.searching.hit_beyond.Given.{Over}
use Rattle.log_cursor.proofs.searching.hit_beyond.Goals as goal
use Rattle.log_cursor.proofs.searching.hit_beyond.Goals.{After-after-next, After-is_rule}
use Rattle.log_cursor.proofs.searching.hit_beyond.Goals.{then-next-from-via-then-next-from, then-next-from-via-else-next-from+then-not-touches, then-next-from-via-else-next-from+else-not-touches+then-has}
use Rattle.log_cursor.proofs.searching.hit_beyond.Goals.{then-from-at, else-from-at}

-- before the first turn nothing has been passed
begun : (region : Region) (may : Cell → Option CellBox → Bool) (first : PendingView) (budget : ℕ) (from to : ℤ) (start : Start)
    (steps : ℕ) → IsWayOf first.rules start first.symbols → from ≤ℤ to →
    steps + (first.unread + opening_count first.rules may from to start first.symbols) ≤ budget →
    IsWalking (is_stop_in region) may first.rules (stops_left first.rules from to start first.symbols) budget from to first
    start steps
begun region may first budget from to start steps way window reads = record {
  passed = [];
  same = refl;
  window = window;
  way = way;
  all = refl;
  unwanted = refl;
  reads = reads;
}

pub loop-at-init : goal.loop-at-init
loop-at-init g c =
    let first = c.args.pending.now in
    let region = c.args.test.now.region in
    let from = word c.args.from in
    let to = word c.args.to in
    let window : from ≤ℤ to = omega (arith, ints, c.requires.window) in
    let touching = touching_left-count first.rules from to region c.args.start first.symbols in
    let all = opened_left-count first.rules from to c.args.start first.symbols in (
      record {
        walking = begun region (touches_at region) first _ from to c.args.start c.args.steps.now c.requires.way window
            (omega (arith, touching));
        drawing = begun region has_hull first _ from to c.args.start c.args.steps.now c.requires.way window (omega (arith, all));
        gone = AreGoneOver-none first.rules region from c.new-opened.result first.symbols c.args.start c.new-opened.ensures;
      },
      refl,
      λ rule is. is,
    )

pub returns-in_err-entry-clause-value : goal.returns-in_err-entry-clause-value
returns-in_err-entry-clause-value g c =
    let from : word c.args.from ≡ c.args.from = to_z-of_z w64 _ (search rules) in
    let to : word c.args.to ≡ c.args.to = to_z-of_z w64 _ (search rules) in
    rw c.from_residual.ensures (rw (from, to) at (sym (walking-end c.loop-at.invariant.0.walking c.in_err-entry.ensures.none)))

pub after-next-requires : goal.after-next-requires
after-next-requires g c = (taken-next c.loop-at.invariant.0.walking c.in_ok-entry.ensures.found).start_is

pub touches-requires : goal.touches-requires
touches-requires g c = taken-near c.loop-at.invariant.0.walking c.in_ok-entry.ensures.found

-- the turn in which a symbol was taken off
turn : (g : Over) (c : After-after-next g) {may : Cell → Option CellBox → Bool} {rules : RulesView} {stops : List Stop}
    {budget : ℕ} {from to : ℤ} →
    IsWalking (is_stop_in c.args.test.now.region) may rules stops budget from to c.loop-at.pending c.loop-at.at c.loop-at.steps →
    IsTurn (is_stop_in c.args.test.now.region) may rules stops budget from to c.loop-at.pending c.next.new.self c.loop-at.at
    c.after-next.result c.loop-at.steps c.next.new.steps c.in_ok-entry.entry
turn g c walking = record {
  walking = walking;
  taken = c.in_ok-entry.ensures.found;
  same = c.next.ensures.rules;
  cost = c.next.ensures.cost;
  leads = c.after-next.ensures;
}

pub loop-at-smaller-then-next-from : goal.loop-at-smaller-then-next-from
loop-at-smaller-then-next-from g c =
    turn-fewer (turn g (goal.at.loop-at-smaller-then-next-from g c).After-after-next c.loop-at.invariant.0.walking)

pub loop-at-preserved-then-next-from : goal.loop-at-preserved-then-next-from
loop-at-preserved-then-next-from g c =
    let at = (goal.at.loop-at-preserved-then-next-from g c).After-after-next in
    let its = turn g at c.loop-at.invariant.0.walking in
    let draw = turn g at c.loop-at.invariant.0.drawing in
    let gone = c.loop-at.invariant.0.gone in (
      turn-passed its draw gone (elim c.then-next-from.branch [
        | then-next-from-via-then-next-from w ↦
            let ended : c.after-next.result.instant <ℤ word c.args.from = omega (arith, ints, w.if-next-from.true) in
            inr ended
        | then-next-from-via-else-next-from+then-not-touches w ↦
            inl (outside-along c.args.test.now.region c.loop-at.at.cell _ c.in_ok-entry.entry.hull (turn-hull its)
            (sym w.touches.ensures ∙ w.if-not-touches.true))
        | then-next-from-via-else-next-from+else-not-touches+then-has w ↦
            inl (turn-again its draw gone (w.has.ensures w.if-has.true))
      ]),
      c.next.ensures.places ∙ c.loop-at.invariant.1,
      λ rule is. c.loop-at.invariant.2 rule (turn-rules-left its rule is),
    )

-- where its entry is not passed over, the window has instants after it and up to its end, its box touches the region, and
-- so it has one
within : (g : Over) (c : After-is_rule g) → (c.loop-at.at.instant <ℤ word c.args.to)
    × (word c.args.from ≤ℤ c.after-next.result.instant)
    × (touches_at c.args.test.now.region c.loop-at.at.cell c.in_ok-entry.entry.hull ≡ true)
    × (is_some c.in_ok-entry.entry.hull ≡ true)
within g c =
    let touches : touches_at c.args.test.now.region c.loop-at.at.cell c.in_ok-entry.entry.hull ≡ true =
    sym c.touches.ensures ∙ c.if-not-touches.false in (
      omega (arith, ints, c.loop-at-test.true),
      omega (arith, ints, c.if-next-from.false),
      touches,
      touches_at-some c.args.test.now.region c.loop-at.at.cell c.in_ok-entry.entry.hull touches,
    )

pub returns-then-not-is_rule-clause-value : goal.returns-then-not-is_rule-clause-value
returns-then-not-is_rule-clause-value g c =
    let at = goal.at.returns-then-not-is_rule-clause-value g c in
    let its = within g at.After-is_rule in
    let turn = turn g at.After-after-next c.loop-at.invariant.0.walking in
    let region = c.args.test.now.region in
    let here = c.after-next.result in
    let from : word c.args.from ≡ c.args.from = to_z-of_z w64 _ (search rules) in
    let to : word c.args.to ≡ c.args.to = to_z-of_z w64 _ (search rules) in
    let kept : word here.instant ≡ here.instant = to_z-of_z w64 _ (search rules) in
    let terminal : c.in_ok-entry.entry.symbol < length c.next.new.self.rules.alphabet =
    leb-false _ _ (sym c.is_rule.ensures ∙ c.if-not-is_rule.true) in
    let held = turn-held turn its.0 its.1 region terminal its.2 in
    let found = find-passed (is_stop_in region) _ turn.walking.passed _ (turn-stop turn its.0 its.1 terminal its.3)
    turn.walking.unwanted in
    rw kept (sym (rw (from, to) at (rw held at found)))

pub returns-then-not-is_rule-clause-left : goal.returns-then-not-is_rule-clause-left
returns-then-not-is_rule-clause-left g c =
    let at = goal.at.returns-then-not-is_rule-clause-left g c in
    let its = within g at.After-is_rule in
    let seeking = turn g at.After-after-next c.loop-at.invariant.0.walking in
    let turn = turn g at.After-after-next c.loop-at.invariant.0.drawing in
    let first = c.args.pending.now in
    let here = c.after-next.result in
    let region = c.args.test.now.region in
    let from : word c.args.from ≡ c.args.from = to_z-of_z w64 _ (search rules) in
    let to : word c.args.to ≡ c.args.to = to_z-of_z w64 _ (search rules) in
    let kept : word here.instant ≡ here.instant = to_z-of_z w64 _ (search rules) in
    let terminal : c.in_ok-entry.entry.symbol < length c.next.new.self.rules.alphabet =
    leb-false _ _ (sym c.is_rule.ensures ∙ c.if-not-is_rule.true) in
    let count = opened_left-count first.rules (word c.args.from) (word c.args.to) here c.next.new.self.symbols in
    let hit : IsHitOf region (word c.args.from) (word c.args.to) c.args.start first c.next.new.self c.args.steps.now
    c.next.new.steps (stop_at here.instant here.cell) = record {
      drawn = record {
        passed = turn.walking.passed;
        all = turn-stop turn its.0 its.1 terminal its.3;
        outside = turn.walking.unwanted;
        inside = turn-held turn its.0 its.1 region terminal its.2;
        end = tt;
      };
      way = turn-way turn;
      opens = λ rule is. touching_rule-from first.rules (word c.args.from) (word c.args.to) region c.args.start first.symbols rule
          (c.loop-at.invariant.2 rule (turn-rules-left seeking rule (touching_rule-to first.rules (word c.args.from)
          (word c.args.to) region here c.next.new.self.symbols rule is)));
      reads = omega (arith, turn-reads turn, count);
    } in
    rw kept (rw (from, to) at hit)

pub returns-then-not-is_rule-clause-rules : goal.returns-then-not-is_rule-clause-rules
returns-then-not-is_rule-clause-rules g c =
    turn-rules (turn g (goal.at.returns-then-not-is_rule-clause-rules g c).After-after-next c.loop-at.invariant.0.walking)

pub returns-then-not-is_rule-clause-cost : goal.returns-then-not-is_rule-clause-cost
returns-then-not-is_rule-clause-cost g c =
    let its = turn g (goal.at.returns-then-not-is_rule-clause-cost g c).After-after-next c.loop-at.invariant.0.walking in
    let from : word c.args.from ≡ c.args.from = to_z-of_z w64 _ (search rules) in
    let to : word c.args.to ≡ c.args.to = to_z-of_z w64 _ (search rules) in
    omega (arith, rw (from, to) at (turn-reads its))

pub returns-then-not-is_rule-clause-budget : goal.returns-then-not-is_rule-clause-budget
returns-then-not-is_rule-clause-budget g c =
    let its = turn g (goal.at.returns-then-not-is_rule-clause-budget g c).After-after-next c.loop-at.invariant.0.drawing in
    let from : word c.args.from ≡ c.args.from = to_z-of_z w64 _ (search rules) in
    let to : word c.args.to ≡ c.args.to = to_z-of_z w64 _ (search rules) in
    omega (arith, rw (from, to) at (turn-reads its))

pub open-requires-clause-may : goal.open-requires-clause-may
open-requires-clause-may g c =
    let at = goal.at.open-requires-clause-may g c in
    let its = within g at.After-is_rule in
    let first = c.args.pending.now in
    let symbol = c.in_ok-entry.entry.symbol in
    let rule : length c.next.new.self.rules.alphabet ≤ symbol =
    leb-true _ _ (sym c.is_rule.ensures ∙ c.if-not-is_rule.false) in
    let from : word c.args.from ≡ c.args.from = to_z-of_z w64 _ (search rules) in
    let to : word c.args.to ≡ c.args.to = to_z-of_z w64 _ (search rules) in
    let own = c.loop-at.invariant.2 symbol
    (turn-own (turn g at.After-after-next c.loop-at.invariant.0.walking) its.0 its.1 its.2 c.next.ensures.sound rule) in
    c.requires.may (ofRule symbol) (touching_rule-from first.rules c.args.from c.args.to c.args.test.now.region c.args.start
    first.symbols symbol (rw (from, to) at own))

pub loop-at-smaller : goal.loop-at-smaller
loop-at-smaller g c =
    let at = goal.at.loop-at-smaller g c in
    let its = within g at.After-is_rule in
    turn-opened-fewer (turn g at.After-after-next c.loop-at.invariant.0.walking) its.0 its.1 its.2 c.next.ensures.sound
    (leb-true _ _ (sym c.is_rule.ensures ∙ c.if-not-is_rule.false)) c.open.new.self c.open.new.steps
    c.open.ensures.rules c.open.ensures.symbols c.open.ensures.unread c.open.ensures.cost

pub loop-at-preserved : goal.loop-at-preserved
loop-at-preserved g c =
    let at = goal.at.loop-at-preserved g c in
    let its = within g at.After-is_rule in
    let turned = turn g at.After-after-next c.loop-at.invariant.0.walking in
    let draw = turn g at.After-after-next c.loop-at.invariant.0.drawing in
    let rule : length c.next.new.self.rules.alphabet ≤ c.in_ok-entry.entry.symbol =
    leb-true _ _ (sym c.is_rule.ensures ∙ c.if-not-is_rule.false) in (
      record {
        walking = turn-opened turned its.0 its.1 its.2 c.next.ensures.sound rule c.open.new.self c.open.new.steps
            c.open.ensures.rules c.open.ensures.symbols c.open.ensures.unread c.open.ensures.cost;
        drawing = turn-opened draw its.0 its.1 its.3 c.next.ensures.sound rule c.open.new.self c.open.new.steps
            c.open.ensures.rules c.open.ensures.symbols c.open.ensures.unread c.open.ensures.cost;
        gone = turn-kept turned draw c.loop-at.invariant.0.gone c.next.ensures.sound rule c.open.new.self.symbols
            c.open.ensures.symbols c.if-from-at.opened (λ opened has. elim c.if-from-at.branch [
              | then-from-at w ↦
                  let within : word c.args.from ≤ℤ c.loop-at.at.instant = omega (arith, ints, w.if-from-at.true) in
                  elim (w.add.ensures opened (subst (λ table. Has table opened) w.opened-is has)) [
                    | inl new ↦ inl (new, within)
                    | inr before ↦ inr before
                  ]
              | else-from-at w ↦ inr (subst (λ table. Has table opened) w.opened-is has)
            ]);
      },
      c.open.ensures.places ∙ c.next.ensures.places ∙ c.loop-at.invariant.1,
      λ symbol is. c.loop-at.invariant.2 symbol (turn-opened-rules turned its.0 its.1 its.2 c.next.ensures.sound rule
          c.open.new.self c.open.new.steps c.open.ensures.rules c.open.ensures.symbols c.open.ensures.unread
          c.open.ensures.cost symbol is),
    )

pub returns-clause-value : goal.returns-clause-value
returns-clause-value g c =
    let from : word c.args.from ≡ c.args.from = to_z-of_z w64 _ (search rules) in
    let to : word c.args.to ≡ c.args.to = to_z-of_z w64 _ (search rules) in
    rw (from, to) at (sym (walking-over c.loop-at.invariant.0.walking (omega (arith, ints, c.loop-at-test.false))))

pub next-requires : goal.next-requires
next-requires g c = record {
  may = λ place is. c.requires.may (ofSymbol place)
      (subst (λ (p : ℕ × ℕ). IsTrue (is_among p place)) c.loop-at.invariant.1 is);
}

pub returns-in_err-entry-clause-left : goal.returns-in_err-entry-clause-left
returns-in_err-entry-clause-left g c = grind (arith, common_steps)

pub returns-in_err-entry-clause-rules : goal.returns-in_err-entry-clause-rules
returns-in_err-entry-clause-rules g c = search rules

pub returns-in_err-entry-clause-places : goal.returns-in_err-entry-clause-places
returns-in_err-entry-clause-places g c = search rules

pub returns-in_err-entry-clause-cost : goal.returns-in_err-entry-clause-cost
returns-in_err-entry-clause-cost g c = search rules

pub returns-in_err-entry-clause-budget : goal.returns-in_err-entry-clause-budget
returns-in_err-entry-clause-budget g c = search rules

pub is_rule-requires : goal.is_rule-requires
is_rule-requires g c = grind (arith, common_steps)

pub returns-then-not-is_rule-clause-places : goal.returns-then-not-is_rule-clause-places
returns-then-not-is_rule-clause-places g c = grind (arith, common_steps)

pub open-requires-clause-rule : goal.open-requires-clause-rule
open-requires-clause-rule g c = grind (arith, common_steps)

pub open-requires-clause-roomy : goal.open-requires-clause-roomy
open-requires-clause-roomy g c = grind (arith, common_steps)

pub returns-clause-rules : goal.returns-clause-rules
returns-clause-rules g c = search rules

pub returns-clause-places : goal.returns-clause-places
returns-clause-places g c = search rules

pub returns-clause-cost : goal.returns-clause-cost
returns-clause-cost g c = search rules

pub returns-clause-budget : goal.returns-clause-budget
returns-clause-budget g c = search rules

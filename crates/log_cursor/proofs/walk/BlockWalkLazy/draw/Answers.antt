use Rattle.std.proofs.lemmas.Grind.{common_steps}
use Rattle.std.proofs.Common.{◌≡◌, ◌+◌, ◌≤ℤ◌, ◌<ℤ◌, ℕ, [], true, IsTrue, not, to_z, of_z, w64, None, refl, subst, sym, ap, ◌∙◌, arith, rules}
use Rattle.std.specs.Option.{is_some}
use Rattle.std.proofs.lemmas.Bool.{leb-false, leb-true}
use Rattle.std.proofs.lemmas.Int.{ints}
use Rattle.step_count.specs.Reads.{ofRule, ofSymbol}
use Rattle.rule_store.specs.Needs.{is_among}
use Rattle.log_cursor.specs.Needs.{walk_needs, walk_rule}
use Rattle.log_cursor.specs.Turn.{IsWalking, has_hull, is_any, opening_rule}
use Rattle.log_cursor.specs.Walk.{WalkView, walk_of}
use Rattle.log_cursor.proofs.InTimeLemmas.{in_time-absent, in_time-before, in_time-first, in_time-opened, in_time-stop}
use Rattle.log_cursor.proofs.NeedsLemmas.{walk_needs-on, walk_rule-of}
use Rattle.log_cursor.proofs.TouchLemmas.{opened_left-count}
use Rattle.log_cursor.proofs.TurnLemmas.{IsTurn, all-left, none-passed, taken-next, turn-absent, turn-before, turn-fewer, turn-opened, turn-opened-fewer, turn-opened-rules, turn-own, turn-reads, turn-rules, turn-rules-left, turn-stop, turn-way, walking-end, walking-over, walking-view}
use Rattle.log_cursor.proofs.WalkLemmas.{none_unless}
use Rattle.log_cursor.proofs.walk.BlockWalkLazy.draw.Given.{Over}
use Rattle.log_cursor.proofs.walk.BlockWalkLazy.draw.Goals as goal
use Rattle.log_cursor.proofs.walk.BlockWalkLazy.draw.Goals.{After-after-next, After-is_rule}
use Rattle.log_cursor.proofs.walk.BlockWalkLazy.draw.Goals.{then-next-self-via-then-next-self, then-next-self-via-else-next-self+then-is_none}

pub loop-self-init : goal.loop-self-init
loop-self-init g c =
    let walk = c.self.inside in
    let none : walk.anchor ≡ None = sym c.take.ensures.value ∙ c.in_default.is in
    let count = opened_left-count walk.pending.rules walk.from walk.to walk.at walk.pending.symbols in
    record {
      anchor = c.take.ensures.after;
      places = ap (λ (w : WalkView). w.places) c.self.view_is;
      walking = subst (λ (first : WalkView). IsWalking is_any has_hull first.rules first.stops
          (c.args.steps.now + first.reads) walk.from walk.to walk.pending walk.at c.args.steps.now) c.self.view_is (record {
            passed = [];
            same = refl;
            window = c.self.invariant.window;
            way = c.self.invariant.way;
            all = rw none refl;
            unwanted = refl;
            reads = omega (arith, count);
          });
      opens = λ rule is.
          let view : IsTrue (walk_rule has_hull (walk_of walk.pending walk.anchor walk.at walk.from walk.to) rule) =
          walk_rule-of has_hull (λ cell. refl) walk.pending walk.anchor walk.at walk.from walk.to rule
          (subst (λ (w : WalkView). IsTrue (opening_rule w.rules has_hull walk.from walk.to walk.at walk.pending.symbols rule))
          (sym c.self.view_is) is) in
          subst (λ (w : WalkView). IsTrue (walk_rule has_hull w rule)) c.self.view_is view;
      in_time = in_time-first walk.pending walk.at walk.from walk.to c.args.self.now c.args.steps.now c.self.invariant.way
          (ap (λ anchor. walk_of walk.pending anchor walk.at walk.from walk.to) (sym none) ∙ c.self.view_is);
    }

pub returns-in_err-entry : goal.returns-in_err-entry
returns-in_err-entry g c =
    let walking = c.loop-self.invariant.walking in
    let facts = c.in_err-entry.ensures in
    let view = walking-view walking c.next.new.self c.next.new.steps c.next.ensures.rules (facts.end ∙ sym facts.none)
    c.next.ensures.cost in
    rw (c.from_residual.ensures, c.loop-self.invariant.anchor) (record {
      found = view.0;
      none = none-passed _ (walking-end walking facts.none);
      cost = view.1;
      in_time = tt;
      rules = c.next.ensures.rules ∙ walking.same;
      places = c.next.ensures.places ∙ c.loop-self.invariant.places;
      needs = walk_needs-on has_hull (λ cell. refl) c.next.new.self None c.loop-self.self-inside.at
          c.loop-self.self-inside.from c.loop-self.self-inside.to c.args.self.now
          (c.next.ensures.places ∙ c.loop-self.invariant.places) (λ rule is. c.loop-self.invariant.opens rule
          (rw (c.next.ensures.rules ∙ walking.same, facts.end ∙ sym facts.none) at is));
    })

pub after-next-requires : goal.after-next-requires
after-next-requires g c = (taken-next c.loop-self.invariant.walking c.in_ok-entry.ensures.found).start_is

-- the turn in which a symbol was taken off
turn : (g : Over) (c : After-after-next g) → IsTurn is_any has_hull c.args.self.now.rules c.args.self.now.stops
    (c.args.steps.now + c.args.self.now.reads) c.loop-self.self-inside.from c.loop-self.self-inside.to
    c.loop-self.self-inside.pending c.next.new.self c.loop-self.self-inside.at c.after-next.result c.loop-self.steps
    c.next.new.steps c.in_ok-entry.entry
turn g c = record {
  walking = c.loop-self.invariant.walking;
  taken = c.in_ok-entry.ensures.found;
  same = c.next.ensures.rules;
  cost = c.next.ensures.cost;
  leads = c.after-next.ensures;
}

pub loop-self-smaller-then-next-self : goal.loop-self-smaller-then-next-self
loop-self-smaller-then-next-self g c =
    turn-fewer (turn g (goal.at.loop-self-smaller-then-next-self g c).After-after-next)

pub loop-self-preserved-then-next-self : goal.loop-self-preserved-then-next-self
loop-self-preserved-then-next-self g c =
    let its = turn g (goal.at.loop-self-preserved-then-next-self g c).After-after-next in
    record {
      anchor = c.loop-self.invariant.anchor;
      places = c.next.ensures.places ∙ c.loop-self.invariant.places;
      walking = elim c.then-next-self.branch [
        | then-next-self-via-then-next-self w ↦
            let ended : c.after-next.result.instant <ℤ c.loop-self.self-inside.from =
            omega (arith, ints, w.if-next-self.true) in
            turn-before its ended
        | then-next-self-via-else-next-self+then-is_none w ↦
            turn-absent its (none_unless c.in_ok-entry.entry.hull (w.is_none.ensures ∙ ap not w.if-is_none.true))
      ];
      opens = λ rule is. c.loop-self.invariant.opens rule (turn-rules-left its rule is);
      in_time = elim (c.then-next-self.branch) [
        | then-next-self-via-then-next-self w ↦
            let ended : c.after-next.result.instant <ℤ c.loop-self.self-inside.from =
            omega (arith, ints, w.if-next-self.true) in
            in_time-before c.loop-self.invariant.in_time its ended
        | then-next-self-via-else-next-self+then-is_none w ↦
            in_time-absent c.loop-self.invariant.in_time its
            (none_unless c.in_ok-entry.entry.hull (w.is_none.ensures ∙ ap not w.if-is_none.true))
      ];
    }

-- where its entry is not passed over, it has a box, and the window has instants after it and up to its end
within : (g : Over) (c : After-is_rule g) → (is_some c.in_ok-entry.entry.hull ≡ true)
    × (c.loop-self.self-inside.at.instant <ℤ c.loop-self.self-inside.to)
    × (c.loop-self.self-inside.from ≤ℤ c.after-next.result.instant)
within g c = (
  c.is_none.ensures ∙ ap not c.if-is_none.false,
  omega (arith, ints, c.loop-self-test.true),
  omega (arith, ints, c.if-next-self.false),
)

pub loop-self-smaller : goal.loop-self-smaller
loop-self-smaller g c =
    let at = goal.at.loop-self-smaller g c in
    let its = within g at.After-is_rule in
    turn-opened-fewer (turn g at.After-after-next) its.1 its.2 its.0 c.next.ensures.sound
    (leb-true _ _ (sym c.is_rule.ensures ∙ c.if-is_rule.true)) c.open.new.self c.open.new.steps c.open.ensures.rules
    c.open.ensures.symbols c.open.ensures.unread c.open.ensures.cost

pub loop-self-preserved : goal.loop-self-preserved
loop-self-preserved g c =
    let at = goal.at.loop-self-preserved g c in
    let its = within g at.After-is_rule in
    record {
      anchor = c.loop-self.invariant.anchor;
      places = c.open.ensures.places ∙ c.next.ensures.places ∙ c.loop-self.invariant.places;
      walking = turn-opened (turn g at.After-after-next) its.1 its.2 its.0 c.next.ensures.sound
          (leb-true _ _ (sym c.is_rule.ensures ∙ c.if-is_rule.true)) c.open.new.self c.open.new.steps
          c.open.ensures.rules c.open.ensures.symbols c.open.ensures.unread c.open.ensures.cost;
      opens = λ rule is. c.loop-self.invariant.opens rule (turn-opened-rules (turn g at.After-after-next) its.1 its.2 its.0
          c.next.ensures.sound (leb-true _ _ (sym c.is_rule.ensures ∙ c.if-is_rule.true)) c.open.new.self c.open.new.steps
          c.open.ensures.rules c.open.ensures.symbols c.open.ensures.unread c.open.ensures.cost rule is);
      in_time = in_time-opened c.loop-self.invariant.in_time (turn g at.After-after-next) its.2 its.0 c.next.ensures.sound
          (leb-true _ _ (sym c.is_rule.ensures ∙ c.if-is_rule.true)) c.open.new.self c.open.new.steps
          c.open.ensures.rules c.open.ensures.symbols c.open.ensures.unread c.open.ensures.cost;
    }

pub invariant_of-self-in-loop-self-2 : goal.invariant_of-self-in-loop-self-2
invariant_of-self-in-loop-self-2 g c =
    let its = turn g (goal.at.invariant_of-self-in-loop-self-2 g c).After-after-next in
    record {
      way = rw (turn-rules its) (turn-way its);
      near = rw c.loop-self.invariant.anchor tt;
      window = c.loop-self.invariant.walking.window;
    }

pub returns-in-loop-self-clause-found : goal.returns-in-loop-self-clause-found
returns-in-loop-self-clause-found g c =
    let at = goal.at.returns-in-loop-self-clause-found g c in
    let its = within g at.After-is_rule in
    let turn = turn g at.After-after-next in
    let here = c.after-next.result in
    let kept : to_z w64 (of_z w64 here.instant) ≡ here.instant = omega (arith, ints) in
    rw (kept, c.loop-self.invariant.anchor, turn-rules turn)
    (all-left _ _ _ (turn-stop turn its.1 its.2 (leb-false _ _ (sym c.is_rule.ensures ∙ c.if-is_rule.false)) its.0)
    turn.walking.unwanted)

pub returns-in-loop-self-clause-cost : goal.returns-in-loop-self-clause-cost
returns-in-loop-self-clause-cost g c =
    let its = turn g (goal.at.returns-in-loop-self-clause-cost g c).After-after-next in
    let walk = c.loop-self.self-inside in
    let same = opened_left-count c.next.new.self.rules walk.from walk.to c.after-next.result c.next.new.self.symbols in
    rw (same, turn-rules its) (turn-reads its)

pub returns-in-loop-self-clause-in_time : goal.returns-in-loop-self-clause-in_time
returns-in-loop-self-clause-in_time g c =
    let at = goal.at.returns-in-loop-self-clause-in_time g c in
    let its = within g at.After-is_rule in
    let here = c.after-next.result in
    let kept : to_z w64 (of_z w64 here.instant) ≡ here.instant = omega (arith, ints) in
    rw kept (in_time-stop c.loop-self.invariant.in_time (turn g at.After-after-next) its.1 its.2
    (leb-false _ _ (sym c.is_rule.ensures ∙ c.if-is_rule.false)))

pub returns : goal.returns
returns g c =
    let walking = c.loop-self.invariant.walking in
    let view = walking-view walking c.loop-self.self-inside.pending c.loop-self.steps refl refl (omega arith) in
    rw c.loop-self.invariant.anchor (record {
      found = view.0;
      none = none-passed _ (walking-over walking (omega (arith, ints, c.loop-self-test.false)));
      cost = view.1;
      in_time = tt;
      rules = walking.same;
      places = c.loop-self.invariant.places;
      needs = walk_needs-on has_hull (λ cell. refl) c.loop-self.self-inside.pending None c.loop-self.self-inside.at
          c.loop-self.self-inside.from c.loop-self.self-inside.to c.args.self.now c.loop-self.invariant.places
          (λ rule is. c.loop-self.invariant.opens rule (rw walking.same at is));
    })

pub invariant_of-self : goal.invariant_of-self
invariant_of-self g c = search rules

pub returns-in-Some-clause-found : goal.returns-in-Some-clause-found
returns-in-Some-clause-found g c = search rules

pub returns-in-Some-clause-cost : goal.returns-in-Some-clause-cost
returns-in-Some-clause-cost g c = grind (arith, common_steps)

pub returns-in-Some-clause-in_time : goal.returns-in-Some-clause-in_time
returns-in-Some-clause-in_time g c = grind (arith, common_steps)

pub returns-in-Some-clause-rules : goal.returns-in-Some-clause-rules
returns-in-Some-clause-rules g c = search rules

pub returns-in-Some-clause-places : goal.returns-in-Some-clause-places
returns-in-Some-clause-places g c = search rules

pub returns-in-Some-clause-needs : goal.returns-in-Some-clause-needs
unfolding walk_rule
returns-in-Some-clause-needs g c = λ read is.
    subst (λ (w : WalkView). IsTrue (walk_needs has_hull w read)) c.self.view_is is

pub invariant_of-self-in-loop-self : goal.invariant_of-self-in-loop-self
invariant_of-self-in-loop-self g c = grind (arith, common_steps)

pub next-requires : goal.next-requires
next-requires g c = record {
  may = λ place is. c.requires.may (ofSymbol place)
      (subst (λ (p : ℕ × ℕ). IsTrue (is_among p place)) c.loop-self.invariant.places is);
}

pub invariant_of-self-in_err-entry : goal.invariant_of-self-in_err-entry
invariant_of-self-in_err-entry g c = grind (arith, common_steps)

pub is_rule-requires : goal.is_rule-requires
is_rule-requires g c = grind (arith, common_steps)

pub open-requires-clause-rule : goal.open-requires-clause-rule
open-requires-clause-rule g c = grind (arith, common_steps)

pub open-requires-clause-roomy : goal.open-requires-clause-roomy
open-requires-clause-roomy g c = grind (arith, common_steps)

pub open-requires-clause-may : goal.open-requires-clause-may
open-requires-clause-may g c =
    let at = goal.at.open-requires-clause-may g c in
    let its = within g at.After-is_rule in
    c.requires.may (ofRule c.in_ok-entry.entry.symbol) (c.loop-self.invariant.opens c.in_ok-entry.entry.symbol
    (turn-own (turn g at.After-after-next) its.1 its.2 its.0 c.next.ensures.sound
    (leb-true _ _ (sym c.is_rule.ensures ∙ c.if-is_rule.true))))

pub returns-in-loop-self-clause-rules : goal.returns-in-loop-self-clause-rules
returns-in-loop-self-clause-rules g c = grind (arith, common_steps)

pub returns-in-loop-self-clause-places : goal.returns-in-loop-self-clause-places
returns-in-loop-self-clause-places g c = grind (arith, common_steps)

pub returns-in-loop-self-clause-needs : goal.returns-in-loop-self-clause-needs
returns-in-loop-self-clause-needs g c =
    let its = turn g (goal.at.returns-in-loop-self-clause-needs g c).After-after-next in
    rw c.loop-self.invariant.anchor (walk_needs-on has_hull (λ cell. refl) c.next.new.self None c.after-next.result
    c.loop-self.self-inside.from c.loop-self.self-inside.to c.args.self.now
    (c.next.ensures.places ∙ c.loop-self.invariant.places)
    (λ rule is. c.loop-self.invariant.opens rule (turn-rules-left its rule (rw (turn-rules its) at is))))

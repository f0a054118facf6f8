use Rattle.std.proofs.Common.{◌≡◌, ◌≤ℤ◌, ◌<ℤ◌, sym, ◌∙◌, arith}
use Rattle.std.proofs.lemmas.Bool.{leb-false, leb-true}
use Rattle.std.proofs.lemmas.Int.{ints}
use Rattle.log_cursor.proofs.StopLemmas.{word}
use Rattle.log_cursor.proofs.SeekLemmas.{IsOpened, inside-absent, inside-found, inside-left, inside-left_smaller, inside-middle, inside-opens, inside-right, inside-right_smaller, inside-start}
use Rattle.log_cursor.proofs.WalkLemmas.{none_unless}
use Rattle.log_cursor.proofs.seeking.cell_within.Goals as goal
use Rattle.log_cursor.proofs.seeking.cell_within.Goals.{After-parts}
use Rattle.log_cursor.proofs.seeking.cell_within.Given.{Over}

pub after-requires : goal.after-requires
after-requires g c = inside-start c.loop-inner.invariant

pub returns-then-not-is_rule-clause-value : goal.returns-then-not-is_rule-clause-value
returns-then-not-is_rule-clause-value g c =
    let kept : word c.args.instant ≡ c.args.instant = omega (arith, ints) in
    rw kept at (inside-found c.loop-inner.invariant c.after.result c.after.ensures
    (leb-false _ _ (sym c.is_rule.ensures ∙ c.if-not-is_rule.true)) (sym c.is_some.ensures ∙ c.loop-inner-test.true))

pub parts-requires-clause-may : goal.parts-requires-clause-may
parts-requires-clause-may g c =
    let kept : word c.args.instant ≡ c.args.instant = omega (arith, ints) in
    let rule = leb-true _ _ (sym c.is_rule.ensures ∙ c.if-not-is_rule.false) in
    let own = inside-opens c.loop-inner.invariant c.requires.rules rule (sym c.is_some.ensures ∙ c.loop-inner-test.true) in
    c.requires.may c.loop-inner.inner.symbol (rw kept at own)

-- the rule whose parts were read
opened : (g : Over) (c : After-parts g) → IsOpened c.args.rules.now c.args.entry.symbol c.args.start (word c.args.instant)
    c.args.steps.now c.loop-inner.inner c.loop-inner.at c.parts.result.0 c.parts.result.1 c.parts.new.steps
opened g c =
    let facts = c.parts.ensures in
    record {
      steps = c.loop-inner.steps;
      inside = c.loop-inner.invariant;
      rule = leb-true _ _ (sym c.is_rule.ensures ∙ c.if-not-is_rule.false);
      left_below = facts.left_below;
      right_below = facts.right_below;
      left_is = facts.left;
      right_is = facts.right;
      read = facts.cost;
    }

pub after-middle-requires : goal.after-middle-requires
after-middle-requires g c = inside-middle (opened g (goal.at.after-middle-requires g c).After-parts)

pub loop-inner-smaller-then-instant-middle : goal.loop-inner-smaller-then-instant-middle
loop-inner-smaller-then-instant-middle g c =
    inside-left_smaller (opened g (goal.at.loop-inner-smaller-then-instant-middle g c).After-parts)

pub loop-inner-preserved-then-instant-middle : goal.loop-inner-preserved-then-instant-middle
loop-inner-preserved-then-instant-middle g c =
    let first : word c.args.instant ≤ℤ c.after-middle.result.instant = omega (arith, ints, c.if-instant-middle.true) in
    inside-left (opened g (goal.at.loop-inner-preserved-then-instant-middle g c).After-parts) c.after-middle.ensures first

pub loop-inner-smaller : goal.loop-inner-smaller
loop-inner-smaller g c = inside-right_smaller (opened g (goal.at.loop-inner-smaller g c).After-parts)

pub loop-inner-preserved : goal.loop-inner-preserved
loop-inner-preserved g c =
    let second : c.after-middle.result.instant <ℤ word c.args.instant = omega (arith, ints, c.if-instant-middle.false) in
    inside-right (opened g (goal.at.loop-inner-preserved g c).After-parts) c.after-middle.ensures second

pub returns-clause-value : goal.returns-clause-value
returns-clause-value g c =
    let kept : word c.args.instant ≡ c.args.instant = omega (arith, ints) in
    rw kept at (inside-absent c.loop-inner.invariant (none_unless _ (sym c.is_some.ensures ∙ c.loop-inner-test.false)))

use Rattle.std.proofs.Common.{◌≡◌, ◌+◌, false, ◌≤ℤ◌, ◌<ℤ◌, [], ◌∷◌, Some, None, ap, subst, sym, ◌∙◌, arith, rules, w64}
use Rattle.std.proofs.lemmas.Int.{ints, to_z-of_z}
use Rattle.rule_store.specs.Entry.{entry_of}
use Rattle.rule_store.specs.Flaws.{AreRules}
use Rattle.rule_store.specs.Log.{in_window, log_of, stop_at}
use Rattle.rule_store.specs.View.{RulesView}
use Rattle.step_count.specs.Reads.{ofSymbol}
use Rattle.log_cursor.specs.Descent.{first_needed, hit_from}
use Rattle.log_cursor.specs.Touching.{first_among}
use Rattle.log_cursor.proofs.DescentLemmas.{IsPassed, anchor-end, passing-cost, passing-found, passing-last, passing-next}
use Rattle.log_cursor.proofs.DescentLemmas.{passing-opens, passing-start, passing-within}
use Rattle.log_cursor.proofs.NeedsLemmas.{symbol-among}
use Rattle.log_cursor.proofs.FirstLemmas.{first-known, first-over, first-passed, first-some}
use Rattle.log_cursor.proofs.StopLemmas.{word}
use Rattle.log_cursor.proofs.WayLemmas.{IsWayOf-placed, length-log_of}
use Rattle.log_cursor.proofs.StageLemmas.{end_stage-rules}
use Rattle.log_cursor.proofs.descent.Descent.begin.Given.{Over}
use Rattle.log_cursor.proofs.descent.Descent.begin.Goals as goal
use Rattle.log_cursor.proofs.descent.Descent.begin.Goals.{After-entry-entry, After-entry-entry-in-loop-i}

pub returns-in_default-clause-hit : goal.returns-in_default-clause-hit
returns-in_default-clause-hit g c =
    let rules = c.args.view.rules.now in
    let start = c.args.start in
    let region = c.args.test.now.region in
    let instant = c.args.instant in
    let anchor = c.anchor_hit-anchor.result in
    let kept : word instant ≡ instant = to_z-of_z w64 _ (search rules) in
    let is : anchor ≡ first_among region (in_window instant instant (stop_at start.instant start.cell ∷ [])) =
    rw kept at c.anchor_hit-anchor.ensures in
    let none : None ≡ first_needed (log_of c.args.view) start instant = sym c.in_default.is ∙ c.requires.first in
    rw (c.over.ensures.at, c.over.ensures.stage, c.is_some.ensures) (
    anchor-end rules instant region start anchor is
    ∙ first-over (log_of c.args.view) start instant rules region anchor is none
    )

pub entry-entry-requires : goal.entry-entry-requires
entry-entry-requires g c =
    let sound : AreRules c.args.view.rules.now = subst AreRules c.rules-rules.ensures c.sizes.ensures.sound in
    rw c.rules-rules.ensures (first-known c.args.view c.args.start c.args.instant c.in-Some.first sound
    (sym c.in-Some.is ∙ c.requires.first))

-- the first symbol was read before
begun : (g : Over) (c : After-entry-entry g) → IsPassed c.args.view.rules.now (log_of c.args.view) c.args.start
    (word c.args.instant) c.args.test.now.region c.args.steps.now 0 c.args.start c.entry-entry.result
    (c.args.steps.now + 1)
begun g c =
    let rules = c.args.view.rules.now in
    let log = log_of c.args.view in
    let sound : AreRules rules = subst AreRules c.rules-rules.ensures c.sizes.ensures.sound in
    let needed : Some c.in-Some.first ≡ first_needed log c.args.start c.args.instant = sym c.in-Some.is ∙ c.requires.first in
    let kept : word c.args.instant ≡ c.args.instant = to_z-of_z w64 _ (search rules) in
    rw kept (first-passed log c.args.start c.args.instant rules c.args.test.now.region c.args.steps.now c.in-Some.first
    c.entry-entry.result
    (IsWayOf-placed rules c.args.start log sound (length-log_of c.args.view sound) c.requires.placed) needed
    (first-known c.args.view c.args.start c.args.instant c.in-Some.first sound needed)
    (c.entry-entry.ensures.value ∙ ap (λ (r : RulesView). entry_of r c.in-Some.first) c.rules-rules.ensures))

pub after-at-requires : goal.after-at-requires
after-at-requires g c = passing-start (begun g (goal.at.after-at-requires g c).After-entry-entry)

pub returns-then-instant-at-clause-sound : goal.returns-then-instant-at-clause-sound
returns-then-instant-at-clause-sound g c =
    let its = begun g (goal.at.returns-then-instant-at-clause-sound g c).After-entry-entry in
    let kept : word c.args.instant ≡ c.args.instant = to_z-of_z w64 _ (search rules) in
    let reached : word c.args.instant ≤ℤ c.after-at.result.instant = omega (arith, ints, c.if-instant-at.true) in
    rw kept at (passing-within its c.after-at.ensures reached)

pub returns-then-instant-at-clause-hit : goal.returns-then-instant-at-clause-hit
returns-then-instant-at-clause-hit g c =
    let its = begun g (goal.at.returns-then-instant-at-clause-hit g c).After-entry-entry in
    let kept : word c.args.instant ≡ c.args.instant = to_z-of_z w64 _ (search rules) in
    let reached : word c.args.instant ≤ℤ c.after-at.result.instant = omega (arith, ints, c.if-instant-at.true) in
    rw kept at (passing-found its c.after-at.ensures reached)

pub returns-then-instant-at-clause-cost : goal.returns-then-instant-at-clause-cost
returns-then-instant-at-clause-cost g c =
    let its = begun g (goal.at.returns-then-instant-at-clause-cost g c).After-entry-entry in
    let kept : word c.args.instant ≡ c.args.instant = to_z-of_z w64 _ (search rules) in
    let reached : word c.args.instant ≤ℤ c.after-at.result.instant = omega (arith, ints, c.if-instant-at.true) in
    let cost = rw kept at (passing-cost its c.after-at.ensures reached) in
    rw c.in-Some.is (omega (arith, cost))

pub loop-i-init : goal.loop-i-init
loop-i-init g c =
    let its = begun g (goal.at.loop-i-init g c).After-entry-entry in
    let ended : c.after-at.result.instant <ℤ word c.args.instant = omega (arith, ints, c.if-instant-at.false) in
    passing-next its c.after-at.ensures ended

-- the symbol that was read
passed : (g : Over) (c : After-entry-entry-in-loop-i g) → IsPassed c.args.view.rules.now (log_of c.args.view) c.args.start
    (word c.args.instant) c.args.test.now.region c.args.steps.now c.loop-i.i c.loop-i.at c.entry-entry-in-loop-i.result
    (c.entry-entry-in-loop-i.new.steps + 1)
passed g c = record {
  steps = c.loop-i.steps + 1;
  passing = c.loop-i.invariant;
  inside = omega (arith, c.len-i-end.ensures, c.loop-i-test.true);
  is = c.entry-entry-in-loop-i.ensures.value;
  known = c.entry-entry-in-loop-i.ensures.within;
  read = omega (arith, c.entry-entry-in-loop-i.ensures.cost);
}

pub entry-entry-requires-in-loop-i-clause-may : goal.entry-entry-requires-in-loop-i-clause-may
entry-entry-requires-in-loop-i-clause-may g c =
    c.requires.may (ofSymbol (c.args.view.from + c.loop-i.i))
    (symbol-among c.args.view c.loop-i.i (omega (arith, c.len-i-end.ensures, c.loop-i-test.true)))

pub after-next-requires : goal.after-next-requires
after-next-requires g c = passing-start (passed g (goal.at.after-next-requires g c).After-entry-entry-in-loop-i)

pub returns-then-instant-next-clause-sound : goal.returns-then-instant-next-clause-sound
returns-then-instant-next-clause-sound g c =
    let its = passed g (goal.at.returns-then-instant-next-clause-sound g c).After-entry-entry-in-loop-i in
    let kept : word c.args.instant ≡ c.args.instant = to_z-of_z w64 _ (search rules) in
    let reached : word c.args.instant ≤ℤ c.after-next.result.instant = omega (arith, ints, c.if-instant-next.true) in
    rw kept at (passing-within its c.after-next.ensures reached)

pub returns-then-instant-next-clause-hit : goal.returns-then-instant-next-clause-hit
returns-then-instant-next-clause-hit g c =
    let its = passed g (goal.at.returns-then-instant-next-clause-hit g c).After-entry-entry-in-loop-i in
    let kept : word c.args.instant ≡ c.args.instant = to_z-of_z w64 _ (search rules) in
    let reached : word c.args.instant ≤ℤ c.after-next.result.instant = omega (arith, ints, c.if-instant-next.true) in
    rw kept at (passing-found its c.after-next.ensures reached)

pub returns-then-instant-next-clause-cost : goal.returns-then-instant-next-clause-cost
returns-then-instant-next-clause-cost g c =
    let its = passed g (goal.at.returns-then-instant-next-clause-cost g c).After-entry-entry-in-loop-i in
    let kept : word c.args.instant ≡ c.args.instant = to_z-of_z w64 _ (search rules) in
    let reached : word c.args.instant ≤ℤ c.after-next.result.instant = omega (arith, ints, c.if-instant-next.true) in
    let cost = rw kept at (passing-cost its c.after-next.ensures reached) in
    rw c.in-Some.is (omega (arith, cost))

pub loop-i-preserved : goal.loop-i-preserved
loop-i-preserved g c =
    let its = passed g (goal.at.loop-i-preserved g c).After-entry-entry-in-loop-i in
    let ended : c.after-next.result.instant <ℤ word c.args.instant = omega (arith, ints, c.if-instant-next.false) in
    passing-next its c.after-next.ensures ended

pub returns-clause-hit : goal.returns-clause-hit
returns-clause-hit g c =
    let kept : word c.args.instant ≡ c.args.instant = to_z-of_z w64 _ (search rules) in
    let none = passing-last c.loop-i.invariant (omega (arith, c.len-i-end.ensures, c.loop-i-test.false)) in
    ap (hit_from c.args.view.rules.now c.args.instant c.args.test.now.region c.over-2.result.at) c.over-2.ensures.stage
    ∙ (rw kept at none)

pub returns-clause-cost : goal.returns-clause-cost
returns-clause-cost g c =
    let its = first-some (log_of c.args.view) c.args.start c.args.instant c.in-Some.first
    (sym c.in-Some.is ∙ c.requires.first) in
    rw (c.in-Some.is, c.over-2.ensures.stage) (omega (arith, its.some, c.loop-i.invariant.cost, c.loop-i.auto.i-end, c.len-i-end.ensures))

pub returns-in_default-clause-opens : goal.returns-in_default-clause-opens
returns-in_default-clause-opens g c =
    rw c.over.ensures.stage
    (end_stage-rules c.args.view.rules.now c.args.instant c.args.test.now.region c.over.result.at c.is_some.result _)

pub returns-then-instant-at-clause-opens : goal.returns-then-instant-at-clause-opens
returns-then-instant-at-clause-opens g c =
    let its = begun g (goal.at.returns-then-instant-at-clause-opens g c).After-entry-entry in
    let kept : word c.args.instant ≡ c.args.instant = to_z-of_z w64 _ (search rules) in
    let reached : word c.args.instant ≤ℤ c.after-at.result.instant = omega (arith, ints, c.if-instant-at.true) in
    rw kept at (passing-opens its c.after-at.ensures reached)

pub returns-then-instant-next-clause-opens : goal.returns-then-instant-next-clause-opens
returns-then-instant-next-clause-opens g c =
    let its = passed g (goal.at.returns-then-instant-next-clause-opens g c).After-entry-entry-in-loop-i in
    let kept : word c.args.instant ≡ c.args.instant = to_z-of_z w64 _ (search rules) in
    let reached : word c.args.instant ≤ℤ c.after-next.result.instant = omega (arith, ints, c.if-instant-next.true) in
    rw kept at (passing-opens its c.after-next.ensures reached)

pub returns-clause-opens : goal.returns-clause-opens
returns-clause-opens g c =
    rw c.over-2.ensures.stage
    (end_stage-rules c.args.view.rules.now c.args.instant c.args.test.now.region c.over-2.result.at false _)

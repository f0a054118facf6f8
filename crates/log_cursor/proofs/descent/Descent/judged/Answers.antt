use Rattle.std.proofs.Common.{◌<◌, ◌≤◌, true, false, length, ap, subst, sym, ◌∙◌, arith}
use Rattle.std.proofs.lemmas.Bool.{leb-false, leb-true}
use Rattle.log_cursor.specs.Descent.{IsStage, IsTouching, IsWithin, hit_from, reads_from, stage_weight}
use Rattle.log_cursor.proofs.DescentLemmas.{within-count, within-near, within-opens, within-outside}
use Rattle.log_cursor.proofs.DescentLemmas.{within-start, within-terminal}
use Rattle.log_cursor.proofs.RuleLemmas.{parts-below}
use Rattle.log_cursor.proofs.StageLemmas.{end_stage-rules}
use Rattle.log_cursor.proofs.descent.Descent.judged.Goals as goal
use Rattle.log_cursor.proofs.descent.Descent.judged.Goals.{After-entry-entry}
use Rattle.log_cursor.proofs.descent.Descent.judged.Given.{Over}

-- where its symbol is
within_is : (g : Over) (c : After-entry-entry g) →
    IsWithin c.args.rules.now c.args.self.at c.args.instant c.in-Within.symbol
within_is g c = subst (IsStage c.args.rules.now c.args.self.at c.args.instant) c.in-Within.is c.requires

pub touches-requires : goal.touches-requires
touches-requires g c =
    within-near c.args.rules.now c.args.self.at c.args.instant c.in-Within.symbol
    (within_is g (goal.at.touches-requires g c).After-entry-entry) c.entry-entry.result c.entry-entry.ensures.value

pub returns-then-not-touches-clause-hit : goal.returns-then-not-touches-clause-hit
returns-then-not-touches-clause-hit g c =
    let rules = c.args.rules.now in
    let region = c.args.test.now.region in
    let none = within-outside rules c.args.self.at c.args.instant c.in-Within.symbol
    (within_is g (goal.at.returns-then-not-touches-clause-hit g c).After-entry-entry) c.entry-entry.result
    c.entry-entry.ensures.value region (sym c.touches.ensures ∙ c.if-not-touches.true) in
    ap (hit_from rules c.args.instant region c.over.result.at) c.over.ensures.stage
    ∙ none ∙ ap (hit_from rules c.args.instant region c.args.self.at) (sym c.in-Within.is)

pub after-requires : goal.after-requires
after-requires g c =
    within-start c.args.rules.now c.args.self.at c.args.instant c.in-Within.symbol
    (within_is g (goal.at.after-requires g c).After-entry-entry) c.entry-entry.result c.entry-entry.ensures.value

pub returns-then-not-is_rule-clause-hit : goal.returns-then-not-is_rule-clause-hit
returns-then-not-is_rule-clause-hit g c =
    let rules = c.args.rules.now in
    let region = c.args.test.now.region in
    let terminal : c.in-Within.symbol < length rules.alphabet = leb-false _ _ (sym c.is_rule.ensures ∙ c.if-not-is_rule.true) in
    let one = within-terminal rules c.args.self.at c.args.instant c.in-Within.symbol
    (within_is g (goal.at.returns-then-not-is_rule-clause-hit g c).After-entry-entry) c.entry-entry.result
    c.entry-entry.ensures.value region c.after.result c.after.ensures terminal
    (sym c.touches.ensures ∙ c.if-not-touches.false) in
    rw (c.over-then-not-is_rule.ensures.at, c.over-then-not-is_rule.ensures.stage, c.in-Within.is) one

-- the symbol is a rule, and its parts are below it
touching_is : (g : Over) (c : After-entry-entry g) → length c.args.rules.now.alphabet ≤ c.in-Within.symbol →
    IsTouching c.args.rules.now c.args.self.at c.args.instant c.in-Within.symbol
touching_is g c rule =
    let within = within_is g c in
    let below = parts-below c.args.rules.now c.in-Within.symbol c.entry-entry.ensures.rules rule within.known in
    record { within = within; rule = rule; left_below = below.0; right_below = below.1 }

pub returns-clause-sound : goal.returns-clause-sound
returns-clause-sound g c =
    touching_is g (goal.at.returns-clause-sound g c).After-entry-entry (leb-true _ _ (sym c.is_rule.ensures ∙ c.if-not-is_rule.false))

pub returns-clause-hit : goal.returns-clause-hit
returns-clause-hit g c =
    ap (hit_from c.args.rules.now c.args.instant c.args.test.now.region c.args.self.at) (sym c.in-Within.is)

pub returns-clause-weight : goal.returns-clause-weight
returns-clause-weight g c = omega (arith, ap stage_weight c.in-Within.is)

pub returns-clause-cost : goal.returns-clause-cost
returns-clause-cost g c =
    let at = goal.at.returns-clause-cost g c in
    let rules = c.args.rules.now in
    let region = c.args.test.now.region in
    let same = ap (reads_from rules c.args.instant region c.args.self.at) c.in-Within.is in
    let its = touching_is g at.After-entry-entry (leb-true _ _ (sym c.is_rule.ensures ∙ c.if-not-is_rule.false)) in
    let one = within-count rules c.args.self.at c.args.instant c.in-Within.symbol its.within c.entry-entry.result
    c.entry-entry.ensures.value region its.rule its.left_below its.right_below
    (sym c.touches.ensures ∙ c.if-not-touches.false) in
    omega (arith, same, one)

pub returns-then-not-touches-clause-opens : goal.returns-then-not-touches-clause-opens
returns-then-not-touches-clause-opens g c =
    rw c.over.ensures.stage (end_stage-rules c.args.rules.now c.args.instant c.args.test.now.region c.over.result.at false _)

pub returns-then-not-is_rule-clause-opens : goal.returns-then-not-is_rule-clause-opens
returns-then-not-is_rule-clause-opens g c =
    rw c.over-then-not-is_rule.ensures.stage
    (end_stage-rules c.args.rules.now c.args.instant c.args.test.now.region c.over-then-not-is_rule.result.at true _)

pub returns-clause-opens : goal.returns-clause-opens
returns-clause-opens g c =
    let at = goal.at.returns-clause-opens g c in
    let its = touching_is g at.After-entry-entry (leb-true _ _ (sym c.is_rule.ensures ∙ c.if-not-is_rule.false)) in
    rw c.in-Within.is (within-opens c.args.rules.now c.args.self.at c.args.instant c.in-Within.symbol its.within
    c.entry-entry.result c.entry-entry.ensures.value c.args.test.now.region its.rule its.left_below its.right_below
    (sym c.touches.ensures ∙ c.if-not-touches.false))

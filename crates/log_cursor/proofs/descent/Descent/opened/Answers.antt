use Rattle.std.proofs.Common.{◌≡◌, IsTrue, ap, refl, subst, sym, ◌∙◌, arith}
use Rattle.std.specs.Prelude.{◌==◌}
use Rattle.std.proofs.lemmas.Bool.{eq-eqb, or_right}
use Rattle.rule_store.specs.Flaws.{left_of, right_of}
use Rattle.log_cursor.specs.Descent.{IsStage, IsTouching, hit_from, reads_from, stage_rule, stage_turning, stage_weight}
use Rattle.log_cursor.proofs.DescentLemmas.{hit-parts, parted}
use Rattle.log_cursor.proofs.StackLemmas.{own_symbol}
use Rattle.log_cursor.proofs.descent.Descent.opened.Given.{Over}
use Rattle.log_cursor.proofs.descent.Descent.opened.Goals as goal
use Rattle.log_cursor.proofs.descent.Descent.opened.Goals.{After-parts, In-Touching}

-- where its rule is
touching_is : (g : Over) (c : In-Touching g) →
    IsTouching c.args.rules.now c.args.self.at c.args.instant c.in-Touching.rule
touching_is g c = subst (IsStage c.args.rules.now c.args.self.at c.args.instant) c.in-Touching.is c.requires.sound

pub parts-requires : goal.parts-requires
parts-requires g c =
    let its = touching_is g (goal.at.parts-requires g c).In-Touching in
    let symbol = c.in-Touching.rule in
    let next : IsTrue (stage_rule c.args.self.stage symbol) = rw c.in-Touching.is (eq-eqb symbol symbol refl) in
    record { rule = its.rule; within = its.within.known; may = c.requires.may symbol next }

-- the parts that were read
both : (g : Over) (c : After-parts g) →
    (c.parts.result.0.symbol ≡ left_of c.args.rules.now c.in-Touching.rule)
    × (c.parts.result.1.symbol ≡ right_of c.args.rules.now c.in-Touching.rule)
both g c = (
  own_symbol c.args.rules.now _ c.parts.result.0 c.parts.ensures.left,
  own_symbol c.args.rules.now _ c.parts.result.1 c.parts.ensures.right,
)

pub returns-clause-sound : goal.returns-clause-sound
returns-clause-sound g c =
    let at = goal.at.returns-clause-sound g c in
    let two = both g at.After-parts in
    let its = touching_is g at.In-Touching in
    rw (two.0, two.1) (parted c.args.rules.now c.args.self.at c.args.instant c.in-Touching.rule its.rule its.left_below
    its.right_below its.within)

pub returns-clause-hit : goal.returns-clause-hit
returns-clause-hit g c region =
    let at = goal.at.returns-clause-hit g c in
    let two = both g at.After-parts in
    let its = touching_is g at.In-Touching in
    let same = sym (hit-parts c.args.rules.now c.args.instant region c.args.self.at c.in-Touching.rule its.rule
    its.within.known its.left_below its.right_below) in
    (rw (two.0, two.1) same) ∙ ap (hit_from c.args.rules.now c.args.instant region c.args.self.at) (sym c.in-Touching.is)

pub returns-clause-turn : goal.returns-clause-turn
returns-clause-turn g c = ap stage_turning (sym c.in-Touching.is)

pub returns-clause-weight : goal.returns-clause-weight
returns-clause-weight g c =
    let two = both g (goal.at.returns-clause-weight g c).After-parts in
    omega (arith, ap stage_weight c.in-Touching.is, two.0, two.1, c.parts.ensures.left_below, c.parts.ensures.right_below)

pub returns-clause-cost : goal.returns-clause-cost
returns-clause-cost g c region =
    let two = both g (goal.at.returns-clause-cost g c).After-parts in
    let same = ap (reads_from c.args.rules.now c.args.instant region c.args.self.at) c.in-Touching.is in
    rw (two.0, two.1) (omega (arith, same, c.parts.ensures.cost))

pub returns-clause-opens : goal.returns-clause-opens
returns-clause-opens g c region =
    let two = both g (goal.at.returns-clause-opens g c).After-parts in
    rw (two.0, two.1, c.in-Touching.is) (λ other is. or_right (c.in-Touching.rule == other) _ is)

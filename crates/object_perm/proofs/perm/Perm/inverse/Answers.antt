use Rattle.std.proofs.Common.{◌+◌, arith, sym, ◌∙◌, ◌<◌}
use Rattle.object_perm.proofs.WalkLemmas.{along-zero, along-next}
use Rattle.object_perm.proofs.InverseLemmas.{inverse_of-at}
use Rattle.object_perm.proofs.SearchLemmas.{IsTarget, beyond-more, passed-more, few_moves, first_target, indexed-same}
use Rattle.object_perm.proofs.perm.Perm.inverse.Given.{Over}
use Rattle.object_perm.proofs.perm.Perm.inverse.Goals as goal
use Rattle.object_perm.proofs.perm.Perm.inverse.Goals.{After-value_at-next}

-- where there is no target yet, the walk has not come round
moved_few : (g : Over) (c : After-value_at-next g) → c.loop-target.invariant.moves < 16
moved_few g c =
    let indexed = indexed-same c.self.inside.values c.args.self.now c.self.inside.shortcuts c.self.view_is c.self.invariant in
    let walk = c.loop-target.invariant in
    few_moves c.args.self.now c.self.inside.shortcuts c.args.v walk.moves c.loop-target.place
    (indexed.lead_back.ahead c.args.v c.requires) walk.path (sym c.get.ensures.value ∙ c.in_default.is) walk.passed
    walk.beyond

pub loop-target-init : goal.loop-target-init
loop-target-init g c =
    record {
      moves = 0;
      path = along-zero c.args.self.now c.args.v;
      within = c.requires;
      cost = omega arith;
      passed = λ fewer below. absurd (omega arith);
      beyond = λ more some reaches. omega arith;
    }

pub walk_to-requires-clause-near : goal.walk_to-requires-clause-near
walk_to-requires-clause-near g c =
    let indexed = indexed-same c.self.inside.values c.args.self.now c.self.inside.shortcuts c.self.view_is c.self.invariant in
    let walk = c.loop-target.invariant in
    (first_target c.args.self.now c.self.inside.shortcuts c.args.v walk.moves c.loop-target.place c.in-Some.target
    indexed.permutes indexed.lead_back c.requires walk.within walk.path
    (sym c.get.ensures.value ∙ c.in-Some.is) walk.passed).near

pub returns-in-Some-clause-cost : goal.returns-in-Some-clause-cost
returns-in-Some-clause-cost g c =
    let indexed = indexed-same c.self.inside.values c.args.self.now c.self.inside.shortcuts c.self.view_is c.self.invariant in
    let walk = c.loop-target.invariant in
    let found : IsTarget c.args.self.now c.args.v walk.moves c.in-Some.target =
    first_target c.args.self.now c.self.inside.shortcuts c.args.v walk.moves c.loop-target.place c.in-Some.target
    indexed.permutes indexed.lead_back c.requires walk.within walk.path
    (sym c.get.ensures.value ∙ c.in-Some.is) walk.passed in
    let near = found.near in
    let rest = c.walk_to.ensures.cost near.moves near.some near.path in
    omega (arith, found.cost, walk.cost, c.in-Some.ensures.cost, rest)

pub returns-then-next-v-clause-cost : goal.returns-then-next-v-clause-cost
returns-then-next-v-clause-cost g c =
    let walk = c.loop-target.invariant in
    let few = moved_few g (goal.at.returns-then-next-v-clause-cost g c).After-value_at-next in
    omega (arith, few, walk.cost, c.in_default.ensures.cost, c.value_at-next.ensures.cost)

pub loop-target-smaller : goal.loop-target-smaller
loop-target-smaller g c =
    let walk = c.loop-target.invariant in
    let few = moved_few g (goal.at.loop-target-smaller g c).After-value_at-next in
    omega (arith, few, walk.cost, c.in_default.ensures.cost, c.value_at-next.ensures.cost)

pub loop-target-preserved : goal.loop-target-preserved
loop-target-preserved g c =
    let walk = c.loop-target.invariant in
    let values = c.args.self.now in
    let path = along-next values walk.moves c.args.v c.loop-target.place walk.path
    ∙ sym c.value_at-next.ensures.value in
    record {
      moves = walk.moves + 1;
      path = path;
      within = c.value_at-next.ensures.within;
      cost = omega (arith, walk.cost, c.in_default.ensures.cost, c.value_at-next.ensures.cost);
      passed = passed-more values c.self.inside.shortcuts c.args.v walk.moves c.loop-target.place walk.path
          (sym c.get.ensures.value ∙ c.in_default.is) walk.passed;
      beyond = beyond-more values c.args.v c.args.v walk.moves c.value_at-next.result path c.if-next-v.false walk.beyond;
    }

pub returns-in-Some-clause-exact : goal.returns-in-Some-clause-exact
returns-in-Some-clause-exact g c =
    let indexed = indexed-same c.self.inside.values c.args.self.now c.self.inside.shortcuts c.self.view_is c.self.invariant in
    let found = c.walk_to.ensures in
    sym (inverse_of-at c.args.self.now c.walk_to.result c.args.v indexed.permutes found.within found.value)

pub returns-then-next-v-clause-exact : goal.returns-then-next-v-clause-exact
returns-then-next-v-clause-exact g c =
    let indexed = indexed-same c.self.inside.values c.args.self.now c.self.inside.shortcuts c.self.view_is c.self.invariant in
    let here = sym c.value_at-next.ensures.value ∙ c.if-next-v.true in
    sym (inverse_of-at c.args.self.now c.loop-target.place c.args.v indexed.permutes c.loop-target.invariant.within here)

use Rattle.std.proofs.Common.{arith}
use Rattle.k2_tree.proofs.CheckingLemmas.{walk_starts, walk_few, walk_goes_on, walk_fails, walk_ends}
use Rattle.k2_tree.proofs.checking.ones_of_level.Goals as goal

pub loop-init : goal.loop-init
loop-init c = walk_starts c.args.fan c.args.bits.now c.args.start c.args.groups c.requires.within

pub returns-then-found-eq0-clause-flaw : goal.returns-then-found-eq0-clause-flaw
returns-then-found-eq0-clause-flaw c =
    walk_fails c.loop.invariant c.loop-test.true c.ones_of_group-found.ensures c.if-found-eq0.true

pub overflow_add-ones : goal.overflow_add-ones
overflow_add-ones c =
    let next = walk_goes_on c.loop.invariant c.loop-test.true c.ones_of_group-found.ensures c.if-found-eq0.false in
    omega (arith, walk_few next, next.along, next.within, c.requires.few)

pub overflow_add-place : goal.overflow_add-place
overflow_add-place c =
    let next = walk_goes_on c.loop.invariant c.loop-test.true c.ones_of_group-found.ensures c.if-found-eq0.false in
    omega (arith, next.within, c.requires.few)

pub loop-preserved : goal.loop-preserved
loop-preserved c =
    walk_goes_on c.loop.invariant c.loop-test.true c.ones_of_group-found.ensures c.if-found-eq0.false

pub returns-clause-whole : goal.returns-clause-whole
returns-clause-whole c = walk_ends c.loop.invariant (omega arith)

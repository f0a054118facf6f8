use Rattle.std.proofs.lemmas.Result.{err_from_is_err_and}
use Rattle.index_format.proofs.BlockLemmas.{blocks-told, blocks-done, blocks-no_anchor, blocks-last, blocks-fault, blocks-more}
use Rattle.index_format.proofs.outline.blocks.further_in.Goals as goal

pub returns-then-progress-ground-clause-exact : goal.returns-then-progress-ground-clause-exact
returns-then-progress-ground-clause-exact c view whole = blocks-told c.loop.invariant.told c.if-progress-ground.true view whole

pub returns-clause-exact : goal.returns-clause-exact
returns-clause-exact c view whole = blocks-done c.loop.invariant.told c.loop-test.false view whole

pub returns-in_err-at-clause-exact : goal.returns-in_err-at-clause-exact
returns-in_err-at-clause-exact c view whole =
    let p = err_from_is_err_and c.from_residual.result c.from_residual.ensures.1 in
    rw (p.1, p.2) (blocks-no_anchor c.loop.invariant.told c.loop-test.true c.if-progress-ground.false view whole c.in_err-at.field-0.0
    c.in_err-at.ensures.exact)

pub returns-in_default-clause-exact : goal.returns-in_default-clause-exact
returns-in_default-clause-exact c view whole =
    blocks-last c.loop.invariant.told c.loop-test.true c.if-progress-ground.false c.next_anchor.new.reader
    (rw c.in_default.is at c.in_ok-at.ensures.exact) view whole

pub returns-in_err-block_in-clause-exact : goal.returns-in_err-block_in-clause-exact
returns-in_err-block_in-clause-exact c view whole =
    let p = err_from_is_err_and c.from_residual-in_err-block_in.result c.from_residual-in_err-block_in.ensures.1 in
    let there = rw c.in-Some.is at c.in_ok-at.ensures.exact in
    rw (p.1, p.2) (blocks-fault c.loop.invariant.told c.loop-test.true c.if-progress-ground.false c.in-Some.at c.next_anchor.new.reader there
    view whole c.in_err-block_in.field-0.0 (c.in_err-block_in.ensures.exact view whole))

pub loop-preserved : goal.loop-preserved
loop-preserved c =
    let there = rw c.in-Some.is at c.in_ok-at.ensures.exact in
    record {
      told = blocks-more c.loop.invariant.told c.loop-test.true c.if-progress-ground.false c.in-Some.at c.next_anchor.new.reader there
          _ c.block_in.new.reader c.in_ok-block_in.ensures.last c.in_ok-block_in.ensures.exact;
      bounded = λ view whole are. c.in_ok-block_in.ensures.bounds view whole (c.loop.invariant.bounded view whole are);
    }

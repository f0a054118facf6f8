use Rattle.index_format.proofs.BlockOrderLemmas.{putting_blocks-ends, putting_blocks-own, putting_blocks-more}
use Rattle.index_format.proofs.outline.block_putting.put_blocks.Goals as goal

pub put_object-requires : goal.put_object-requires
put_object-requires c =
    rw (c.of-ground.ensures.frame, c.of-ground.ensures.table, c.split_at.ensures.front)
    (putting_blocks-own c.loop-index.invariant c.own_count.result c.own_count.ensures.own c.own_count.ensures.others)

pub loop-index-preserved : goal.loop-index-preserved
loop-index-preserved c =
    rw c.split_at.ensures.back (putting_blocks-more c.loop-index.invariant c.own_count.result c.own_count.ensures.own c.own_count.ensures.others
    c.in_ok-log.log.now c.put_object.new.writer c.loop-index-test.true (rw c.split_at.ensures.front at c.in_ok-log.ensures.rest)
    (rw (c.of-ground.ensures.frame, c.of-ground.ensures.table, c.split_at.ensures.front) at c.in_ok-log.ensures.bits))

pub returns : goal.returns
returns c view whole = putting_blocks-ends c.loop-index.invariant c.loop-index-test.false view whole

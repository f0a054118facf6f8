use Rattle.std.proofs.Common.{subst, sym}
use Rattle.index_format.specs.BlockSteps.{IsLogFrom}
use Rattle.index_format.proofs.BlockPuttingLemmas.{placed-within, putting_object-bits, putting_object-placed, putting_object-more}
use Rattle.index_format.proofs.outline.block_putting.put_object.Goals as goal

pub split_at-requires : goal.split_at-requires
split_at-requires c =
    let block = c.block-item.result in
    let it = putting_object-placed c.loop-block.invariant block c.loop-block-test.true in
    placed-within c.args.ground.frame.height it.0 block c.loop-block.log.now (rw (sym c.block-item.is) at it.2)

pub put_block-requires-clause-log : goal.put_block-requires-clause-log
put_block-requires-clause-log c =
    let block = c.block-item.result in
    let it = putting_object-placed c.loop-block.invariant block c.loop-block-test.true in (
      it.0,
      it.1,
      subst (IsLogFrom c.args.ground.frame.height it.0 block.cell) (sym c.split_at.ensures.front)
          (rw (sym c.block-item.is) at it.2.log),
    )

pub loop-block-preserved : goal.loop-block-preserved
loop-block-preserved c =
    let more = putting_object-more c.loop-block.invariant c.block-item.result c.loop-block-test.true in
    rw c.split_at.ensures.back ((rw (sym c.block-item.is) at more) c.in_ok-reached.reached.next
    c.in_ok-reached.reached.last c.put_block.new.writer c.in_ok-reached.ensures.kept c.in_ok-reached.ensures.next
    (rw c.split_at.ensures.front at c.in_ok-reached.ensures.last) (rw c.split_at.ensures.front at c.in_ok-reached.ensures.bits))

pub returns-clause-bits : goal.returns-clause-bits
returns-clause-bits c view whole = putting_object-bits c.loop-block.invariant c.loop-block-test.false c.put_end.new.writer c.in_ok-put_end.ensures view whole

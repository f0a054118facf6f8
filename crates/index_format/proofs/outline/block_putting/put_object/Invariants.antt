use Rattle.index_format.proofs.BlockPuttingLemmas.{IsPuttingObject}
use Rattle.index_format.proofs.outline.block_putting.put_object.Given as goal

abbrev pub invariant-loop-block : goal.invariant-loop-block
invariant-loop-block l = IsPuttingObject l.ground.table.now l.ground.frame l.block-index l.reached.next l.reached.last l.log l.writer l.blocks l.fn.log l.fn.writer

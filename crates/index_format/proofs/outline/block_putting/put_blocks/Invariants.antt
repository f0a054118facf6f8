use Rattle.index_format.proofs.BlockOrderLemmas.{IsPuttingBlocks}
use Rattle.index_format.proofs.outline.block_putting.put_blocks.Given as goal

abbrev pub invariant-loop-index : goal.invariant-loop-index
invariant-loop-index l = IsPuttingBlocks l.table l.frame l.objects l.index l.blocks l.log l.writer l.fn.blocks l.fn.log l.fn.writer

use Rattle.index_format.proofs.BlockPuttingLemmas.{IsPuttingLog}
use Rattle.index_format.proofs.outline.block_putting.put_log.Given as goal

abbrev pub invariant-loop-symbol : goal.invariant-loop-symbol
invariant-loop-symbol l = IsPuttingLog l.ground.table.now l.ground.frame.height l.symbol-index l.cell l.writer l.fn.start l.log l.fn.writer

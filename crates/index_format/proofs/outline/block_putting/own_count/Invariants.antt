use Rattle.index_format.proofs.BlockOrderLemmas.{IsCounting}
use Rattle.index_format.proofs.outline.block_putting.own_count.Given as goal

abbrev pub invariant-loop-block : goal.invariant-loop-block
invariant-loop-block l = IsCounting l.index l.count l.block-index l.blocks

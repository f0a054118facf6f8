use Rattle.index_format.specs.BlockSteps.{told_of}
use Rattle.index_format.specs.LogReading.{StaysBounded}
use Rattle.index_format.proofs.BlockLemmas.{AreBlocksRead}
use Rattle.index_format.proofs.outline.blocks.further_in.Given as goal

abbrev pub invariant-loop : goal.invariant-loop
invariant-loop l = record {
  told : AreBlocksRead l.ground.table.now l.ground.frame l.index l.end l.counter (told_of l.progress) l.reader (told_of l.fn.progress)
      l.fn.reader;
  bounded : StaysBounded l.ground.table.now l.fn.progress l.progress;
}

use Rattle.rule_store.specs.View.{RulesView}
use Rattle.rule_store.specs.Table.{IsWholeTable}
use Rattle.index_format.specs.BlockSteps.{told_of}
use Rattle.index_format.specs.LogReading.{IsBounded}
use Rattle.index_format.proofs.BlockLemmas.{AreObjectsRead}
use Rattle.index_format.proofs.outline.blocks.blocks_in.Given as goal

abbrev pub invariant-loop-index : goal.invariant-loop-index
invariant-loop-index l = record {
  objects : AreObjectsRead l.table l.frame l.objects l.index (told_of l.progress) l.reader l.fn.reader;
  bounded : (view : RulesView) → IsWholeTable view l.table → IsBounded view l.progress;
}

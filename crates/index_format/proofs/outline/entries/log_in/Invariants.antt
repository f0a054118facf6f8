use Rattle.rule_store.specs.View.{RulesView}
use Rattle.rule_store.specs.Table.{IsWholeTable}
use Rattle.index_format.specs.LogReading.{IsReadBehind}
use Rattle.index_format.proofs.EntryLemmas.{AreEntriesRead}
use Rattle.index_format.proofs.outline.entries.log_in.Given as goal

abbrev pub invariant-loop : goal.invariant-loop
invariant-loop l = record {
  entries : AreEntriesRead l.ground.table.now l.ground.frame l.period l.end l.counter l.symbols.items l.log.at l.reader l.fn.symbols.items
      l.fn.start l.fn.reader;
  own : (view : RulesView) → IsWholeTable view l.ground.table.now
      → IsReadBehind view l.fn.start l.fn.symbols.items l.symbols.items l.log;
}

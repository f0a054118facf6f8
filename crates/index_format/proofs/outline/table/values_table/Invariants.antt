use Rattle.std.proofs.Common.{◌≡◌, ℕ, List}
use Rattle.rule_store.specs.View.{RulesView}
use Rattle.rule_store.specs.Table.{IsTableOf, symbols_of}
use Rattle.rule_store.specs.declared.entry_table.EntryTable.{EntryTable}
use Rattle.index_format.proofs.outline.table.values_table.Given as goal

-- the first values are in the table
pub record AreAdded (height period i : ℕ) (values : List ℕ) (table : EntryTable) : Type 0 where
  pub many : symbols_of table ≡ i
  pub entries : (view : RulesView) → view.alphabet ≡ values → height ≡ view.height → period ≡ view.period → IsTableOf view table

abbrev pub invariant-loop-value : goal.invariant-loop-value
invariant-loop-value l = AreAdded l.height l.period l.value-index l.values l.table

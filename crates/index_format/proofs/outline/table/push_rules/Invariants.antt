use Rattle.std.proofs.Common.{◌≡◌, ℕ, ◌+◌, List}
use Rattle.rule_store.specs.View.{RulesView}
use Rattle.rule_store.specs.Table.{IsTableOf, symbols_of}
use Rattle.rule_store.specs.declared.entry_table.EntryTable.{EntryTable}
use Rattle.index_format.specs.RuleReading.{AreNextRules}
use Rattle.index_format.proofs.outline.table.push_rules.Given as goal

-- the first rules are in the table
pub record AreAdded (i : ℕ) (rules : List (ℕ × ℕ)) (old new : EntryTable) : Type 0 where
  pub many : symbols_of new ≡ symbols_of old + i
  pub entries : (view : RulesView) → AreNextRules view old rules → IsTableOf view new

abbrev pub invariant-loop-left : goal.invariant-loop-left
invariant-loop-left l = AreAdded l.left-index l.rules l.fn.table l.table

-- What the reading of rules keeps.
use Rattle.std.specs.Prelude.{◌≡◌, ℕ, ◌+◌, List, length, None}
use Rattle.rule_store.specs.Flaws.{rule_flaw}
use Rattle.rule_store.specs.Table.{IsTableOf, symbols_of}
use Rattle.rule_store.specs.View.{RulesView}
use Rattle.rule_store.specs.declared.entry_table.EntryTable.{EntryTable}
use Rattle.index_format.specs.OutlineRules.{with_rules}

-- the table has the values of the view and these rules, and no others
pub record IsRuleTable (view : RulesView) (rules : List (ℕ × ℕ)) (table : EntryTable) : Type 0 where
  pub known : IsTableOf (with_rules view rules) table
  pub many : symbols_of table ≡ length view.alphabet + length rules

-- a view has these rules, they have no flaw, and the table has its values alone
pub record AreNextRules (view : RulesView) (table : EntryTable) (rules : List (ℕ × ℕ)) : Type 0 where
  pub are : view.rules ≡ rules
  pub sound : rule_flaw view ≡ None
  pub known : IsTableOf view table
  pub many : symbols_of table ≡ length view.alphabet

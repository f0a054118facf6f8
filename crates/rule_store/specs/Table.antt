-- A table of entries that grows symbol by symbol.
use Rattle.std.specs.Prelude.{◌≡◌, ℕ, ◌+◌, ◌<◌, length}
use Rattle.rule_store.specs.View.{RulesView, symbols_in}
use Rattle.rule_store.specs.Flaws.{rule_parts}
use Rattle.rule_store.specs.Stored.{entries_of, AreEntries}
use Rattle.rule_store.specs.declared.entry_table.EntryTable.{EntryTable}

-- how many symbols a table has entries of
abbrev pub symbols_of : EntryTable → ℕ
symbols_of table = length (entries_of table.entries)

-- the table has the entries of the first symbols of these rules, and judges by their height and period
pub record IsTableOf (view : RulesView) (table : EntryTable) : Type 0 where
  pub height : table.height ≡ view.height
  pub period : table.period ≡ view.period
  pub entries : AreEntries view (entries_of table.entries)

-- the table has the entries of all symbols of the rules, and judges by their height and period
pub record IsWholeTable (view : RulesView) (table : EntryTable) : Type 0 where
  pub known : IsTableOf view table
  pub all : symbols_of table ≡ symbols_in view

-- of these rules, the table has the entries of all symbols below rule j, which has these parts
pub record IsNextRule (view : RulesView) (table : EntryTable) (j : ℕ) (parts : ℕ × ℕ) : Type 0 where
  pub known : IsTableOf view table
  pub many : symbols_of table ≡ length view.alphabet + j
  pub within : j < length view.rules
  pub is : rule_parts view.rules j ≡ parts

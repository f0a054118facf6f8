use Rattle.std.proofs.Common.{◌≡◌, ℕ, ◌+◌, ◌-◌, List, Bool, length, Option}
use Rattle.rule_store.specs.Table.{symbols_of}
use Rattle.rule_store.specs.View.{RulesView}
use Rattle.rule_store.specs.declared.entry_table.EntryTable.{EntryTable}
use Rattle.index_format.specs.Fields.{items_at}
use Rattle.index_format.specs.OutlineRules.{layer_rule_in, rule_before}
use Rattle.index_format.specs.RuleReading.{IsRuleTable}
use Rattle.index_format.proofs.outline.layers.layer_in.Given as goal

-- rules of a layer were read, and what is left to read gives what the whole layer does
pub record AreRead (base top count i : ℕ) (first seen : List (ℕ × ℕ)) (before : Option (ℕ × ℕ)) (old new : EntryTable)
    (bits rest : List Bool) : Type 0 where
  pub long : length seen ≡ length first + i
  pub last : rule_before (length first) seen ≡ before
  pub symbols : symbols_of new ≡ symbols_of old + i
  pub table : (view : RulesView) → IsRuleTable view first old → IsRuleTable view seen new
  pub read : (view : RulesView) → IsRuleTable view first old
      → items_at (layer_rule_in view base top (length first)) (count - i) seen rest
      ≡ items_at (layer_rule_in view base top (length first)) count first bits

abbrev pub invariant-loop : goal.invariant-loop
invariant-loop l =
    AreRead l.base l.top l.count l.counter l.fn.rules.items l.rules.items l.before l.fn.table l.table l.fn.reader l.reader

use Rattle.std.proofs.Common.{◌≡◌, ℕ, ◌+◌, ◌-◌, ◌≤◌, List, Bool, length, []}
use Rattle.rule_store.specs.Table.{symbols_of}
use Rattle.rule_store.specs.View.{RulesView}
use Rattle.rule_store.specs.declared.entry_table.EntryTable.{EntryTable}
use Rattle.index_format.specs.OutlineRules.{layers_in, rules_in}
use Rattle.index_format.specs.RuleReading.{IsRuleTable}
use Rattle.index_format.proofs.outline.layers.rules_in.Given as goal

-- layers were read, and what is left to read gives what the whole does
pub record AreRead (count layer base values : ℕ) (seen : List (ℕ × ℕ)) (old new : EntryTable) (bits rest : List Bool) : Type 0 where
  pub few : length seen ≤ count
  pub layers : layer ≤ length seen
  pub symbols : symbols_of new ≡ values + length seen
  pub table : (view : RulesView) → IsRuleTable view [] old → IsRuleTable view seen new
  pub read : (view : RulesView) → IsRuleTable view [] old
      → layers_in (count - layer) view count layer base seen rest ≡ rules_in view count bits

abbrev pub invariant-loop-place : goal.invariant-loop-place
invariant-loop-place l = AreRead l.count l.layer l.base l.values l.rules.items l.fn.table l.table l.fn.reader l.reader

abbrev pub decreases-loop-place : goal.decreases-loop-place
decreases-loop-place l = l.count - length l.rules.items

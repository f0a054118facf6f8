use Rattle.std.proofs.Common.{◌≡◌, ℕ, ◌<◌, false, get_or}
use Rattle.rule_store.specs.Flaws.{leads_out}
use Rattle.rule_store.specs.Stored.{rules_view}
use Rattle.rule_store.specs.Table.{IsTableOf, symbols_of}
use Rattle.rule_store.proofs.raw_rules.RawRules.add_values.Given as goal

abbrev pub invariant-loop-index : goal.invariant-loop-index
invariant-loop-index l = record {
  many : symbols_of l.table ≡ l.index;
  known : IsTableOf (rules_view l.self) l.table;
  short : (j : ℕ) → j < l.index → leads_out l.self.height (get_or l.self.alphabet.now j 0) ≡ false;
}

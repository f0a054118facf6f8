use Rattle.std.proofs.Common.{◌≡◌, ◌+◌, ◌<◌, ℕ, false, length}
use Rattle.rule_store.specs.Flaws.{is_rule_flawed}
use Rattle.rule_store.specs.Stored.{rules_view}
use Rattle.rule_store.specs.Table.{IsTableOf, symbols_of}
use Rattle.rule_store.proofs.raw_rules.RawRules.add_rules.Given as goal

abbrev pub invariant-loop-rule : goal.invariant-loop-rule
invariant-loop-rule l = record {
  many : symbols_of l.table ≡ length l.self.alphabet.now + l.rule;
  known : IsTableOf (rules_view l.self) l.table;
  sound : (j : ℕ) → j < l.rule → is_rule_flawed (rules_view l.self) j ≡ false;
}

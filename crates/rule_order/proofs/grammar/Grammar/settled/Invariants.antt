use Rattle.std.proofs.Common.{◌≡◌, ℕ, ◌+◌, ◌<◌, length}
use Rattle.rule_order.specs.Layers.{parts_of}
use Rattle.rule_order.specs.Order.{new_symbol}
use Rattle.rule_order.proofs.grammar.Grammar.settled.Given as goal

abbrev pub invariant-loop-rule : goal.invariant-loop-rule
invariant-loop-rule l = record {
  len : length l.settled.items ≡ length l.self.rules.now;
  done : (i : ℕ) → i < l.rule →
      parts_of l.self.alphabet l.settled.items (new_symbol l.self.alphabet l.self.rules.now (l.self.alphabet + i))
      ≡ (
        new_symbol l.self.alphabet l.self.rules.now (parts_of l.self.alphabet l.self.rules.now (l.self.alphabet + i)).0,
        new_symbol l.self.alphabet l.self.rules.now (parts_of l.self.alphabet l.self.rules.now (l.self.alphabet + i)).1,
      );
}

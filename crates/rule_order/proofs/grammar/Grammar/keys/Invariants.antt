use Rattle.std.proofs.Common.{◌≡◌, map, take}
use Rattle.rule_order.specs.Queue.{key_of}
use Rattle.rule_order.proofs.grammar.Grammar.keys.Given as goal

abbrev pub invariant-loop-symbol : goal.invariant-loop-symbol
invariant-loop-symbol l = l.keys.items ≡ map (key_of l.self.alphabet l.self.rules.now) (take l.symbol-index l.pairs)

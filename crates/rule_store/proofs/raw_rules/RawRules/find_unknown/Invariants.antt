use Rattle.std.proofs.Common.{◌≡◌, ◌+◌, ℕ, ◌<◌, false, leb, get_or, length}
use Rattle.rule_store.proofs.raw_rules.RawRules.find_unknown.Given as goal

abbrev pub invariant-loop-index : goal.invariant-loop-index
invariant-loop-index l = (j : ℕ) → j < l.index →
    leb (length l.self.alphabet.now + length l.self.rules.now) (get_or l.self.symbols.now j 0) ≡ false

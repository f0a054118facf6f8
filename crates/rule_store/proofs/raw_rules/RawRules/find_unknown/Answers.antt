use Rattle.std.proofs.Common.{arith, sym}
use Rattle.rule_store.specs.Stored.{rules_view}
use Rattle.rule_store.specs.View.{symbols_in}
use Rattle.rule_store.proofs.FlawLemmas.{symbol_flaw-at, symbol_flaw-none}
use Rattle.rule_store.proofs.raw_rules.RawRules.find_unknown.Goals as goal

pub returns-then-symbol-known : goal.returns-then-symbol-known
returns-then-symbol-known c =
    sym (symbol_flaw-at (symbols_in (rules_view c.args.self.now)) c.args.self.now.symbols.now c.loop-index.index
    c.loop-index-test.true c.loop-index.invariant c.if-symbol-known.true)

pub returns : goal.returns
returns c =
    sym (symbol_flaw-none (symbols_in (rules_view c.args.self.now)) c.args.self.now.symbols.now
    (λ j within. c.loop-index.invariant j (omega arith)))

use Rattle.std.proofs.Common.{◌∙◌, ap, arith, get_or, sym}
use Rattle.rule_store.specs.Flaws.{leads_out}
use Rattle.rule_store.proofs.FlawLemmas.{code_flaw-at, code_flaw-none}
use Rattle.rule_store.proofs.TableLemmas.{flawed-refused}
use Rattle.rule_store.proofs.raw_rules.RawRules.add_values.Goals as goal

pub returns-then-not-branch-clause-flaw : goal.returns-then-not-branch-clause-flaw
returns-then-not-branch-clause-flaw c =
    let height = c.args.self.now.height in
    let value = get_or c.args.self.now.alphabet.now c.loop-index.index 0 in
    let long = flawed-refused (leads_out c.loop-index.table.height value) c.in_ok-push_value.field-0
    c.in_ok-push_value.ensures.judged c.if-not-branch.true in
    sym (code_flaw-at height c.args.self.now.alphabet.now c.loop-index.index c.loop-index-test.true c.loop-index.invariant.short
    (ap (λ h. leads_out h value) (sym c.loop-index.invariant.known.height) ∙ long))

pub returns-clause-flaw : goal.returns-clause-flaw
returns-clause-flaw c =
    sym (code_flaw-none c.args.self.now.height c.args.self.now.alphabet.now
    (λ j within. c.loop-index.invariant.short j (omega (arith, c.loop-index-test.false))))

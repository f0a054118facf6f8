use Rattle.std.proofs.Common.{◌≡◌, ◌-◌, ap, length, ◌∙◌}
use Rattle.rule_store.specs.Flaws.{AreRules}
use Rattle.rule_store.proofs.StoredLemmas.{read_rule}
use Rattle.rule_store.proofs.store.RuleStore.read_rule.Goals as goal

pub returns-clause-parts : goal.returns-clause-parts
returns-clause-parts g c =
    let view = c.args.self.now in
    let rules : AreRules view = rw c.self.view_is at c.self.invariant.rules in
    let many : c.len.result ≡ length view.alphabet = c.len.ensures ∙ ap (λ v. length v.alphabet) c.self.view_is in
    read_rule view c.args.symbol (c.args.symbol - c.len.result) c.at.result rules c.requires.rule c.requires.within
    (ap (λ n. c.args.symbol - n) many) (rw (ap (λ v. v.rules) c.self.view_is) at c.at.ensures.value)

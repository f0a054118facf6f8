use Rattle.std.proofs.Common.{below_more, arith, refl, sym}
use Rattle.rule_store.specs.Flaws.{is_rule_flawed, rule_parts}
use Rattle.rule_store.specs.Stored.{rules_view}
use Rattle.rule_store.specs.Table.{IsNextRule}
use Rattle.rule_store.proofs.FlawLemmas.{rule_flaw-at, rule_flaw-none}
use Rattle.rule_store.proofs.TableLemmas.{flawed-refused, sound-taken}
use Rattle.rule_store.proofs.raw_rules.RawRules.add_rules.Goals as goal
use Rattle.rule_store.proofs.raw_rules.RawRules.add_rules.Goals.{After-push_rule}

-- the table stands before the rule
next : (c : After-push_rule) → IsNextRule (rules_view c.args.self.now) c.loop-rule.table c.loop-rule.rule
    ((rule_parts c.args.self.now.rules.now c.loop-rule.rule).0, (rule_parts c.args.self.now.rules.now c.loop-rule.rule).1)
next c = record {
  known = c.loop-rule.invariant.known;
  many = c.loop-rule.invariant.many;
  within = c.loop-rule-test.true;
  is = refl;
}

pub returns-then-not-branch-clause-flaw : goal.returns-then-not-branch-clause-flaw
returns-then-not-branch-clause-flaw c =
    let view = rules_view c.args.self.now in
    let judged = c.in_ok-push_rule.ensures.judged view c.loop-rule.rule (next (goal.at.returns-then-not-branch-clause-flaw c).After-push_rule) in
    sym (rule_flaw-at view c.loop-rule.rule c.loop-rule-test.true c.loop-rule.invariant.sound
    (flawed-refused (is_rule_flawed view c.loop-rule.rule) c.in_ok-push_rule.field-0 judged c.if-not-branch.true))

pub loop-rule-preserved : goal.loop-rule-preserved
loop-rule-preserved c =
    let view = rules_view c.args.self.now in
    let stands = next (goal.at.loop-rule-preserved c).After-push_rule in
    let judged = c.in_ok-push_rule.ensures.judged view c.loop-rule.rule stands in
    record {
      many = omega (arith, c.in_ok-push_rule.ensures.more c.if-not-branch.false, c.loop-rule.invariant.many);
      known = c.in_ok-push_rule.ensures.entries c.if-not-branch.false view c.loop-rule.rule stands;
      sound = below_more _ _ c.loop-rule.invariant.sound
          (sound-taken (is_rule_flawed view c.loop-rule.rule) c.in_ok-push_rule.field-0 judged c.if-not-branch.false);
    }

pub returns-clause-flaw : goal.returns-clause-flaw
returns-clause-flaw c =
    sym (rule_flaw-none (rules_view c.args.self.now) (λ j within. c.loop-rule.invariant.sound j (omega (arith, c.loop-rule-test.false))))

use Rattle.std.proofs.Common.{◌≡◌, false, length, slice_index_or, ap, ◌∙◌, arith}
use Rattle.std.specs.Prelude.{not}
use Rattle.list_laws.proofs.FindLemmas.{find_in_range-all}
use Rattle.rule_store.specs.Flaws.{is_rule_flawed, rule_flaw, rule_parts}
use Rattle.rule_store.specs.Table.{IsNextRule}
use Rattle.rule_store.specs.View.{RulesView}
use Rattle.index_format.specs.RuleReading.{AreNextRules}
use Rattle.index_format.proofs.outline.table.push_rules.Goals as goal

pub loop-left-preserved : goal.loop-left-preserved
unfolding rule_flaw
loop-left-preserved c =
    let it = c.loop-left.invariant in
    let i = c.loop-left.left-index in
    let rules = c.args.rules.now in
    let rule = slice_index_or rules i (0, 0) in
    let next : (view : RulesView) → AreNextRules view c.args.table.now rules → IsNextRule view c.loop-left.table i rule = λ view are.
    let same = ap (λ rules. length rules) are.are in
    record {
      known = it.entries view are;
      many = omega (arith, it.many, are.many);
      within = omega (arith, same, c.loop-left-test.true);
      is = ap (λ rules. rule_parts rules i) are.are;
    } in
    let view = c.requires.view.0 in
    let are = c.requires.view.1 in
    let sound : is_rule_flawed view i ≡ false =
    find_in_range-all (is_rule_flawed view) 0 (length view.rules) are.sound i (omega arith) (omega (arith, (next view are).within)) in
    let taken = c.in_ok-push_rule.ensures.judged view i (next view are) ∙ ap not sound in
    record {
      many = omega (arith, it.many, c.in_ok-push_rule.ensures.more taken);
      entries = λ view are. c.in_ok-push_rule.ensures.entries taken view i (next view are);
    }

use Rattle.std.proofs.Common.{rules, vec_len, ◌≡◌, ◌+◌, ◌-◌, [], ◌∷◌, length, arith, sym, ap, subst, ◌∙◌}
use Rattle.std.proofs.lemmas.Result.{err_from_is_err_and}
use Rattle.std.proofs.lemmas.List.{length-append}
use Rattle.index_format.specs.Answers.{IsFormatFault}
use Rattle.index_format.specs.Fields.{items_at}
use Rattle.index_format.specs.OutlineRules.{layer_rule_in, rule_before}
use Rattle.index_format.specs.RuleReading.{IsRuleTable}
use Rattle.index_format.proofs.LayerLemmas.{items_at-err, items_at-next, rule_before-more, rule_before-none}
use Rattle.index_format.proofs.outline.layers.layer_in.Goals as goal

pub loop-init : goal.loop-init
loop-init c = record {
  long = omega arith;
  last = rule_before-none c.args.rules.now.items;
  symbols = omega arith;
  table = λ view known. known;
  read = λ view known. let whole : c.args.count - 0 ≡ c.args.count = omega arith in
      ap (λ n. items_at (layer_rule_in view c.args.base c.args.top (length c.args.rules.now.items)) n c.args.rules.now.items c.args.reader.now) whole;
}

pub returns-in_err-rule-clause-exact : goal.returns-in_err-rule-clause-exact
returns-in_err-rule-clause-exact c view known =
    let it = c.loop.invariant in
    let first = c.args.rules.now.items in
    let next = layer_rule_in view c.args.base c.args.top (length first) in
    let p = err_from_is_err_and c.from_residual.result c.from_residual.ensures.1 in
    let size : vec_len c.loop.rules ≡ length c.loop.rules.items = search rules in
    let long : length c.loop.rules.items ≡ c.len.result = omega (arith, size, c.len.ensures) in
    rw (p.1, p.2) (subst (λ read. IsFormatFault read c.in_err-rule.field-0.0) (it.read view known)
    (items_at-err next (c.args.count - c.loop.counter) c.loop.rules.items c.loop.reader (omega (arith, c.loop-test.true)) c.in_err-rule.field-0.0
    (c.in_err-rule.ensures.exact view (length first) c.loop.rules.items (it.table view known) long it.last)))

pub loop-preserved : goal.loop-preserved
loop-preserved c =
    let it = c.loop.invariant in
    let first = c.args.rules.now.items in
    let seen = c.loop.rules.items in
    let rule = c.in_ok-rule.rule in
    let size : vec_len c.loop.rules ≡ length seen = search rules in
    let long : length seen ≡ c.len.result = omega (arith, size, c.len.ensures) in
    let last = rule_before-more (length first) seen rule (omega (arith, it.long)) in
    let items = c.in_ok-push.ensures.items in
    record {
      long = rw items (omega (arith, it.long, length-append seen (rule ∷ [])));
      last = ap (rule_before (length first)) items ∙ last;
      symbols = omega (arith, it.symbols, c.in_ok-rule.ensures.more);
      table = λ view known. subst (λ rules. IsRuleTable view rules c.rule_in.new.table) (sym items)
          (c.in_ok-rule.ensures.table view seen (it.table view known));
      read = λ view known.
          let next = layer_rule_in view c.args.base c.args.top (length first) in
          let left : c.args.count - (c.loop.counter + 1) ≡ c.args.count - c.loop.counter - 1 = omega arith in
          let one = items_at-next next (c.args.count - c.loop.counter) seen c.loop.reader (omega (arith, c.loop-test.true)) rule c.rule_in.new.reader
          (c.in_ok-rule.ensures.exact view (length first) seen (it.table view known) long it.last) in
          rw (items, left) (sym one ∙ it.read view known);
    }

pub returns-clause-exact : goal.returns-clause-exact
unfolding items_at
returns-clause-exact c view known =
    let it = c.loop.invariant in
    let next = layer_rule_in view c.args.base c.args.top (length c.args.rules.now.items) in
    let none : c.args.count - c.loop.counter ≡ 0 = omega (arith, c.loop-test.false) in
    sym (it.read view known) ∙ ap (λ n. items_at next n c.loop.rules.items c.loop.reader) none

use Rattle.std.proofs.Common.{◌≡◌, [], false, length, refl, ap, ◌∙◌, arith}
use Rattle.std.specs.Prelude.{not, slice_index}
use Rattle.list_laws.proofs.FindLemmas.{find_in_range-all}
use Rattle.rule_store.specs.Flaws.{code_flaw, leads_out}
use Rattle.rule_store.specs.View.{rules_with}
use Rattle.index_format.proofs.outline.table.values_table.Goals as goal

pub loop-value-init : goal.loop-value-init
loop-value-init c = record {
  many = c.new-table.ensures.none;
  entries = λ view values height period. c.new-table.ensures.entries view height period;
}

pub loop-value-preserved : goal.loop-value-preserved
unfolding code_flaw
loop-value-preserved c =
    let it = c.loop-value.invariant in
    let values = c.args.values.now in
    let i = c.loop-value.value-index in
    let height = (it.entries (rules_with values [] [] c.args.height c.args.period) refl refl refl).height in
    let near : leads_out c.args.height (slice_index values i) ≡ false =
    find_in_range-all (λ i. leads_out c.args.height (slice_index values i)) 0 (length values) c.requires.near i (omega arith) (omega (arith, c.loop-value-test.true)) in
    let taken = c.in_ok-push_value.ensures.judged ∙ ap (λ h. not (leads_out h (slice_index values i))) height ∙ ap not near in
    record {
      many = omega (arith, it.many, c.in_ok-push_value.ensures.more taken);
      entries = λ view values_are height period.
          let same = ap (λ values. length values) values_are in
          c.in_ok-push_value.ensures.entries taken view (it.entries view values_are height period)
          (omega (arith, it.many, same, c.loop-value-test.true))
          (ap (slice_index view.alphabet) it.many ∙ ap (λ values. slice_index values i) values_are);
    }

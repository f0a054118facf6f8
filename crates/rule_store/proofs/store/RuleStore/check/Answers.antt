use Rattle.std.proofs.Common.{◌≡◌, None, List, ap, length, refl, subst, sym, ◌∙◌}
use Rattle.rule_store.specs.declared.packed_entry.PackedEntry.{PackedEntry}
use Rattle.rule_store.specs.Flaws.{rule_flaw}
use Rattle.rule_store.specs.Stored.{entries_of, AreEntries, AreStoredRules}
use Rattle.rule_store.specs.View.{AreShapedRules, RulesView, rules_with, symbols_in}
use Rattle.rule_store.proofs.FlawLemmas.{rules_flaw-none}
use Rattle.rule_store.proofs.StoredLemmas.{depth_in-entries, same_view}
use Rattle.rule_store.proofs.store.RuleStore.check.Goals as goal

pub add_values-requires-clause-table : goal.add_values-requires-clause-table
add_values-requires-clause-table c = c.in_ok-table.ensures.entries _ refl refl

pub invariant_of-result : goal.invariant_of-result
invariant_of-result c =
    let judged : RulesView = rules_with c.as_slice.result.now c.as_slice-2.result.now c.as_slice-3.result.now c.args.height c.args.period in
    let given = same_view c.as_slice.result.now c.args.alphabet c.as_slice-2.result.now c.args.rules c.as_slice-3.result.now c.args.symbols
    c.args.height c.args.period c.as_slice.ensures c.as_slice-2.ensures c.as_slice-3.ensures in
    let kept = same_view c.as_slice.result.now c.new.result c.as_slice-2.result.now c.new-2.result c.as_slice-3.result.now c.new-3.result
    c.args.height c.args.period (c.as_slice.ensures ∙ sym c.into_vec.ensures ∙ sym c.new.ensures)
    (c.as_slice-2.ensures ∙ sym c.into_vec-2.ensures ∙ sym c.new-2.ensures)
    (c.as_slice-3.ensures ∙ sym c.into_vec-3.ensures ∙ sym c.new-3.ensures) in
    let none : rule_flaw judged ≡ None = sym c.in_ok-rule.ensures.flaw ∙ c.in_default-2.is in
    let entries : List PackedEntry = entries_of c.into_entries-entries.result in
    let many : length entries ≡ symbols_in judged =
    ap (λ kept. length (entries_of kept)) c.into_entries-entries.ensures ∙ c.in_ok-rule.ensures.many c.in_default-2.is in
    let each : AreEntries judged entries =
    subst (λ kept. AreEntries judged (entries_of kept)) (sym c.into_entries-entries.ensures) (c.in_ok-rule.ensures.ok c.in_default-2.is).entries in
    let stored : AreStoredRules judged entries c.greatest_depth-depth.result = record {
      rules = record {
        shaped = subst AreShapedRules (sym given) c.requires;
        flawless = rules_flaw-none judged (record {
          codes = sym c.in_ok-index.ensures.flaw ∙ c.in_default.is;
          rules = none;
          symbols = sym c.find_unknown.ensures ∙ c.in_default-find_unknown.is;
        });
      };
      many = many;
      entries_are = each;
      depth_is = c.greatest_depth-depth.ensures.value
          ∙ depth_in-entries judged entries many each;
      depth_fits = c.greatest_depth-depth.ensures.within;
    } in
    subst (λ view. AreStoredRules view entries c.greatest_depth-depth.result) kept stored

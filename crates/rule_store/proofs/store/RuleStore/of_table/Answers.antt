use Rattle.std.proofs.Common.{ap, subst, sym, ◌∙◌}
use Rattle.std.specs.Prelude.{length, List}
use Rattle.rule_store.specs.declared.packed_entry.PackedEntry.{PackedEntry}
use Rattle.rule_store.specs.Stored.{entries_of, AreEntries, AreStoredRules}
use Rattle.rule_store.specs.View.{RulesView, rules_with}
use Rattle.rule_store.proofs.StoredLemmas.{depth_in-entries, same_view}
use Rattle.rule_store.proofs.store.RuleStore.of_table.Goals as goal

pub invariant_of-result : goal.invariant_of-result
invariant_of-result c =
    let table = c.args.table in
    let given : RulesView = rules_with c.args.alphabet c.args.rules c.args.symbols table.height table.period in
    let kept = same_view c.args.alphabet c.new.result c.args.rules c.new-2.result c.args.symbols c.new-3.result table.height table.period
    (sym (c.new.ensures ∙ c.into_vec.ensures)) (sym (c.new-2.ensures ∙ c.into_vec-2.ensures)) (sym (c.new-3.ensures ∙ c.into_vec-3.ensures)) in
    let whole = c.requires.table in
    let entries : List PackedEntry = entries_of c.into_entries-entries.result in
    let many = ap (λ kept. length (entries_of kept)) c.into_entries-entries.ensures ∙ whole.all in
    let each : AreEntries given entries = subst (λ kept. AreEntries given (entries_of kept)) (sym c.into_entries-entries.ensures) whole.known.entries in
    let stored : AreStoredRules given entries c.greatest_depth-depth.result = record {
      rules = c.requires.rules;
      many = many;
      entries_are = each;
      depth_is = c.greatest_depth-depth.ensures.value
          ∙ depth_in-entries given entries many each;
      depth_fits = c.greatest_depth-depth.ensures.within;
    } in
    subst (λ view. AreStoredRules view entries c.greatest_depth-depth.result) kept stored

-- What a table's answer says of what was pushed, and that it stays a table of the rules when more of them come.
use Rattle.std.proofs.Common.{◌≡◌, ℕ, ◌+◌, ◌<◌, ◌≤◌, true, false, List, [], ◌∷◌, ◌++◌, length, get_or, map, refl, ap, sym, subst, ◌∙◌, arith}
use Rattle.std.specs.Prelude.{Bool, not, slice_index}
use Rattle.std.specs.List.{range_with_len}
use Rattle.std.proofs.lemmas.List.{length-append}
use Rattle.std.proofs.lemmas.List.FromFn.{length-map-range_with_len}
use Rattle.std.proofs.Math.ListN.{get_or-append}
use Rattle.list_laws.specs.Grown.{table_of_rules}
use Rattle.list_laws.proofs.GrownLemmas.{length-table_of_rules, table_of_rules-append, table_of_rules-keeps}
use Rattle.rule_store.specs.View.{RulesView, rules_with, symbols_in}
use Rattle.rule_store.specs.Expansion.{depth_above, depth_of, expansion_of, values_of}
use Rattle.rule_store.specs.Stored.{entries_of, IsPackedEntry}
use Rattle.rule_store.specs.Table.{IsTableOf, symbols_of}
use Rattle.rule_store.specs.declared.entry_table.EntryTable.{EntryTable}
use Rattle.rule_store.proofs.ExpansionLemmas.{depth_of-terminal, values_of-terminal}

pub flawed-refused : (flawed taken : Bool) → taken ≡ not flawed → taken ≡ false → flawed ≡ true
flawed-refused true taken is refused = refl
flawed-refused false taken is refused = absurd (cc)

pub sound-taken : (flawed taken : Bool) → taken ≡ not flawed → taken ≡ true → flawed ≡ false
sound-taken true taken is kept = absurd (cc)
sound-taken false taken is kept = refl

-- these rules, and one more
abbrev pub with_rule : RulesView → ℕ × ℕ → RulesView
with_rule view rule = rules_with view.alphabet (view.rules ++ rule ∷ []) view.symbols view.height view.period

-- these values, and one more
abbrev pub with_value : RulesView → ℕ → RulesView
with_value view value = rules_with (view.alphabet ++ value ∷ []) view.rules view.symbols view.height view.period

-- what a table has for a symbol stays where a rule comes
known-longer : {A : Type 0} (join : A → A → A) (none : A) (f : ℕ → A) (size : ℕ) (rules : List (ℕ × ℕ)) (rule : ℕ × ℕ) (symbol : ℕ) →
    symbol < size + length rules →
    get_or (table_of_rules join none (map f (range_with_len 0 size)) (rules ++ rule ∷ [])) symbol none
    ≡ get_or (table_of_rules join none (map f (range_with_len 0 size)) rules) symbol none
known-longer {A} join none f size rules rule symbol within =
    let known : List A = map f (range_with_len 0 size) in
    let table : List A = table_of_rules join none known rules in
    ap (λ t. get_or t symbol none) (table_of_rules-append join none known rules (rule ∷ []))
    ∙ table_of_rules-keeps join none table (rule ∷ []) symbol
    (omega (arith, length-table_of_rules join none known rules, length-map-range_with_len f 0 size))

module _ (view : RulesView) (rule : ℕ × ℕ) where
  pub expansion_of-with_rule : (symbol : ℕ) → symbol < symbols_in view → expansion_of (with_rule view rule) symbol ≡ expansion_of view symbol
  unfolding expansion_of
  expansion_of-with_rule symbol within =
      known-longer ◌++◌ [] (λ terminal. terminal ∷ []) (length view.alphabet) view.rules rule symbol within

  pub values_of-with_rule : (symbol : ℕ) → symbol < symbols_in view → values_of (with_rule view rule) symbol ≡ values_of view symbol
  unfolding values_of
  values_of-with_rule symbol within = ap (map (slice_index view.alphabet)) (expansion_of-with_rule symbol within)

  pub depth_of-with_rule : (symbol : ℕ) → symbol < symbols_in view → depth_of (with_rule view rule) symbol ≡ depth_of view symbol
  unfolding depth_of
  depth_of-with_rule symbol within =
      known-longer depth_above 0 (λ terminal. 0) (length view.alphabet) view.rules rule symbol within

  -- a table of these rules is one of these and one more
  pub table-with_rule : (table : EntryTable) → symbols_of table ≤ symbols_in view → IsTableOf view table → IsTableOf (with_rule view rule) table
  table-with_rule table few known = record {
    height = known.height;
    period = known.period;
    entries = record {
      each = λ symbol other within.
          let entry = known.entries.each symbol other within in
          record {
            values = subst (λ values. IsPackedEntry values (get_or (entries_of table.entries) symbol other))
                (sym (values_of-with_rule symbol (omega (arith, few)))) entry.values;
            depth = entry.depth ∙ sym (depth_of-with_rule symbol (omega (arith, few)));
            shallow = entry.shallow;
          };
    };
  }

-- a table of terminals alone is one of these values and one more
pub table-with_value : (view : RulesView) (value : ℕ) (table : EntryTable) → symbols_of table ≤ length view.alphabet →
    IsTableOf view table → IsTableOf (with_value view value) table
table-with_value view value table few known = record {
  height = known.height;
  period = known.period;
  entries = record {
    each = λ symbol other within.
        let entry = known.entries.each symbol other within in
        let short : symbol < length view.alphabet = omega (arith, few) in
        let longer : symbol < length (view.alphabet ++ value ∷ []) = omega (arith, length-append view.alphabet (value ∷ [])) in
        let values : values_of (with_value view value) symbol ≡ values_of view symbol =
        values_of-terminal (with_value view value) symbol longer
        ∙ ap (λ v. v ∷ []) (get_or-append view.alphabet (value ∷ []) 0 symbol short)
        ∙ sym (values_of-terminal view symbol short) in
        record {
          values = subst (λ vs. IsPackedEntry vs (get_or (entries_of table.entries) symbol other)) (sym values) entry.values;
          depth = entry.depth ∙ depth_of-terminal view symbol short ∙ sym (depth_of-terminal (with_value view value) symbol longer);
          shallow = entry.shallow;
        };
  };
}

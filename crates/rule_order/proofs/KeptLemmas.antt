-- What settling keeps: each symbol's expansion, values, depth and entry but for its number, what logs mean, and that there is no flaw.
use Rattle.std.proofs.Common.{◌≡◌, ℕ, ◌+◌, ◌-◌, ◌<◌, false, List, [], ◌∷◌, ◌++◌, length, get_or, map, None, ap, sym, subst, ◌∙◌, arith}
use Rattle.std.specs.Prelude.{slice_index}
use Rattle.std.specs.List.{Contains}
use Rattle.std.proofs.lemmas.Bool.{lt-leb, lt-ltb}
use Rattle.std.proofs.lemmas.List.{get_or-map, length-map}
use Rattle.std.proofs.lemmas.List.Folds.{flat_map-map}
use Rattle.list_laws.proofs.KeyedLemmas.{flat_map_alike}
use Rattle.rule_store.specs.View.{RulesView, symbols_in}
use Rattle.rule_store.specs.Expansion.{depth_above, depth_of, expansion_of, values_of}
use Rattle.rule_store.specs.Entry.{entry_of, entry_with}
use Rattle.rule_store.specs.Flaws.{AreRules, is_far, is_rule_flawed, rule_flaw, rule_parts}
use Rattle.rule_store.specs.Log.{log_values}
use Rattle.rule_store.proofs.FlawLemmas.{no_flaws, rule_flaw-none, rule-sound, rules_flaw-none, symbol-known, symbol_flaw-none}
use Rattle.rule_order.specs.Layers.{AreBelow}
use Rattle.rule_order.specs.Order.{new_symbol, settled_rules, symbols_in_order}
use Rattle.rule_order.specs.View.{settled_view}
use Rattle.rule_order.proofs.RankLemmas.{place-new_symbol}
use Rattle.rule_order.proofs.SettledLemmas.{length-settled_rules, old_symbol, old_symbol-rule, settled_rules-below, table-new_symbol}

module _ (view : RulesView) (below : AreBelow (length view.alphabet) view.rules) where
  abbrev new : ℕ → ℕ
  new = new_symbol (length view.alphabet) view.rules

  -- a symbol stands for the terminals that it stood for
  pub expansion_of-settled : (symbol : ℕ) → symbol < symbols_in view →
      expansion_of (settled_view view) (new_symbol (length view.alphabet) view.rules symbol) ≡ expansion_of view symbol
  unfolding expansion_of
  expansion_of-settled symbol within =
      table-new_symbol (length view.alphabet) view.rules below ◌++◌ [] (λ terminal. terminal ∷ []) symbol within

  pub values_of-settled : (symbol : ℕ) → symbol < symbols_in view →
      values_of (settled_view view) (new_symbol (length view.alphabet) view.rules symbol) ≡ values_of view symbol
  unfolding values_of
  values_of-settled symbol within = ap (map (slice_index view.alphabet)) (expansion_of-settled symbol within)

  pub depth_of-settled : (symbol : ℕ) → symbol < symbols_in view →
      depth_of (settled_view view) (new_symbol (length view.alphabet) view.rules symbol) ≡ depth_of view symbol
  unfolding depth_of
  depth_of-settled symbol within =
      table-new_symbol (length view.alphabet) view.rules below depth_above 0 (λ terminal. 0) symbol within

  -- its entry has another number, and is the same else
  pub entry_of-settled : (symbol : ℕ) → symbol < symbols_in view →
      entry_of (settled_view view) (new_symbol (length view.alphabet) view.rules symbol)
      ≡ entry_with (new_symbol (length view.alphabet) view.rules symbol) (values_of view symbol)
  unfolding entry_of
  entry_of-settled symbol within = ap (entry_with (new symbol)) (values_of-settled symbol within)

  -- a log by the new numbers stands for the same values
  pub log_values-settled : (log : List ℕ) → ((symbol : ℕ) → Contains log symbol → symbol < symbols_in view) →
      log_values (settled_view view) (map (new_symbol (length view.alphabet) view.rules) log) ≡ log_values view log
  unfolding log_values
  log_values-settled log known =
      flat_map-map (values_of (settled_view view)) new log
      ∙ flat_map_alike (λ symbol. values_of (settled_view view) (new symbol)) (values_of view) log
      (λ symbol inside. values_of-settled symbol (known symbol inside))

  -- a settled rule is not flawed where the old symbol's entry is not far
  sound_settled : (j symbol : ℕ) → new symbol ≡ length view.alphabet + j → symbol < symbols_in view →
      (rule_parts (settled_rules (length view.alphabet) view.rules) j).0 < length view.alphabet + j →
      (rule_parts (settled_rules (length view.alphabet) view.rules) j).1 < length view.alphabet + j →
      is_far view.height view.period (entry_of view symbol) ≡ false → is_rule_flawed (settled_view view) j ≡ false
  unfolding is_rule_flawed entry_of
  sound_settled j symbol is within left right near =
      let values : values_of (settled_view view) (length view.alphabet + j) ≡ values_of view symbol =
      ap (values_of (settled_view view)) (sym is) ∙ values_of-settled symbol within in
      rw (lt-ltb _ _ left, lt-ltb _ _ right, values) near

  -- where no rule is flawed, no settled rule is
  pub rule_flaw-settled : rule_flaw view ≡ None → rule_flaw (settled_view view) ≡ None
  rule_flaw-settled none =
      rule_flaw-none (settled_view view) (λ j within.
      let alphabet : ℕ = length view.alphabet in
      let old = old_symbol alphabet view.rules below (alphabet + j) (omega (arith, length-settled_rules alphabet view.rules below)) in
      let symbol : ℕ = get_or (symbols_in_order alphabet view.rules) (alphabet + j) 0 in
      let rule = old_symbol-rule alphabet view.rules below (alphabet + j) symbol old (omega arith) in
      let sound = rule-sound view (symbol - alphabet) none (omega (arith, old.within)) in
      let back : alphabet + (symbol - alphabet) ≡ symbol = omega arith in
      let near : is_far view.height view.period (entry_of view symbol) ≡ false =
      subst (λ s. is_far view.height view.period (entry_of view s) ≡ false) back sound.near in
      let parts = settled_rules-below alphabet view.rules below j within in
      sound_settled j symbol old.is old.within parts.0 parts.1 near)

-- the parts of rules without a flaw are below their own symbols
pub below-flawless : (view : RulesView) → rule_flaw view ≡ None → AreBelow (length view.alphabet) view.rules
below-flawless view none = λ j within. let sound = rule-sound view j none within in (sound.left, sound.right)

-- what holds of a rule store holds of it once its rules are settled
pub are_rules-settled : (view : RulesView) → AreRules view → AreRules (settled_view view)
are_rules-settled view rules =
    let none = no_flaws view rules.flawless in
    let below = below-flawless view none.rules in
    let many = length-settled_rules (length view.alphabet) view.rules below in
    let stored = length-map view.symbols (new_symbol (length view.alphabet) view.rules) in
    record {
      shaped = record {
        ascending = rules.shaped.ascending;
        alphabet_fits = rules.shaped.alphabet_fits;
        rules_fit = omega (arith, many, rules.shaped.rules_fit);
        symbols_fit = omega (arith, stored, rules.shaped.symbols_fit);
        high = rules.shaped.high;
        height_fits = rules.shaped.height_fits;
        period_fits = rules.shaped.period_fits;
      };
      flawless = rules_flaw-none (settled_view view) (record {
        codes = none.codes;
        rules = rule_flaw-settled view below none.rules;
        symbols = symbol_flaw-none (symbols_in (settled_view view)) (settled_view view).symbols (λ j within.
            let known = symbol-known (symbols_in view) view.symbols j none.symbols (omega (arith, stored)) in
            let now = place-new_symbol (length view.alphabet) view.rules (slice_index view.symbols j) 0 known in
            let is = get_or-map (new_symbol (length view.alphabet) view.rules) view.symbols j 0 0 (omega (arith, stored)) in
            lt-leb (symbols_in (settled_view view)) (slice_index (settled_view view).symbols j) (omega (arith, is, now.0, many)));
      });
    }

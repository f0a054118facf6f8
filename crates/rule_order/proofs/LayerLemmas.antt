-- Tables of a grammar's symbols, symbol by symbol, and the layers among them.
use Rattle.std.proofs.Common.{◌≡◌, ℕ, zero, suc, ◌+◌, ◌-◌, ◌<◌, ◌≤◌, List, length, get_or, map, max, refl, ap, sym, ◌∙◌, arith, inl, inr}
use Rattle.std.specs.List.{range_with_len}
use Rattle.std.proofs.lemmas.Bool.{cases_lt}
use Rattle.std.proofs.lemmas.List.FromFn.{length-map-range_with_len}
use Rattle.list_laws.specs.Grown.{table_of_rules}
use Rattle.list_laws.proofs.RuleLemmas.{table_of_rules-at_rule, table_of_rules-at_terminal}
use Rattle.rule_store.specs.Expansion.{depth_above}
use Rattle.rule_store.specs.Flaws.{rule_parts}
use Rattle.rule_order.specs.Layers.{AreBelow, layer_of, parts_of, symbol_count}

module _ (alphabet : ℕ) (rules : List (ℕ × ℕ)) (below : AreBelow alphabet rules) where
  -- the parts of a rule are below its symbol
  pub parts-below : (symbol : ℕ) → alphabet ≤ symbol → symbol < symbol_count alphabet rules →
      ((parts_of alphabet rules symbol).0 < symbol) × ((parts_of alphabet rules symbol).1 < symbol)
  parts-below symbol rule within =
      let parts = below (symbol - alphabet) (omega arith) in
      (omega (arith, parts.0), omega (arith, parts.1))

  -- what a table has for a rule: the join of what it has for the parts
  module _ {A : Type 0} (join : A → A → A) (none : A) (f : ℕ → A) where
    pub table-rule : (symbol : ℕ) → alphabet ≤ symbol → symbol < symbol_count alphabet rules →
        get_or (table_of_rules join none (map f (range_with_len 0 alphabet)) rules) symbol none
        ≡ join
        (get_or (table_of_rules join none (map f (range_with_len 0 alphabet)) rules) (parts_of alphabet rules symbol).0 none)
        (get_or (table_of_rules join none (map f (range_with_len 0 alphabet)) rules) (parts_of alphabet rules symbol).1 none)
    table-rule symbol rule within =
        let known : List A = map f (range_with_len 0 alphabet) in
        let j : ℕ = symbol - alphabet in
        let long : length known ≡ alphabet = length-map-range_with_len f 0 alphabet in
        let place : length known + j ≡ symbol = omega arith in
        let parts = parts-below symbol rule within in
        ap (λ k. get_or (table_of_rules join none known rules) k none) (sym place)
        ∙ table_of_rules-at_rule join none known rules j (rule_parts rules j) (omega arith) refl
        (omega (arith, parts.0)) (omega (arith, parts.1))

  pub layer_of-terminal : (symbol : ℕ) → symbol < alphabet → layer_of alphabet rules symbol ≡ 0
  unfolding layer_of
  layer_of-terminal symbol low = table_of_rules-at_terminal depth_above 0 (λ terminal. 0) alphabet rules symbol low

  pub layer_of-rule : (symbol : ℕ) → alphabet ≤ symbol → symbol < symbol_count alphabet rules →
      layer_of alphabet rules symbol
      ≡ 1 + max (layer_of alphabet rules (parts_of alphabet rules symbol).0) (layer_of alphabet rules (parts_of alphabet rules symbol).1)
  unfolding layer_of
  layer_of-rule symbol rule within = table-rule depth_above 0 (λ terminal. 0) symbol rule within

  -- a rule stands above its parts
  pub layers-fall : (symbol : ℕ) → alphabet ≤ symbol → symbol < symbol_count alphabet rules →
      (layer_of alphabet rules (parts_of alphabet rules symbol).0 < layer_of alphabet rules symbol)
      × (layer_of alphabet rules (parts_of alphabet rules symbol).1 < layer_of alphabet rules symbol)
  layers-fall symbol rule within =
      let is = layer_of-rule symbol rule within in
      (omega (arith, is), omega (arith, is))

  low_to : (bound symbol : ℕ) → symbol < bound → symbol < symbol_count alphabet rules →
      layer_of alphabet rules symbol + alphabet ≤ max alphabet (symbol + 1)
  low_to zero symbol under within = absurd (omega arith)
  low_to (suc bound) symbol under within = elim (cases_lt symbol alphabet) [
    | inl terminal ↦ omega (arith, layer_of-terminal symbol terminal)
    | inr rule ↦
        let parts = parts-below symbol rule within in
        let left = low_to bound (parts_of alphabet rules symbol).0 (omega (arith, parts.0)) (omega (arith, parts.0)) in
        let right = low_to bound (parts_of alphabet rules symbol).1 (omega (arith, parts.1)) (omega (arith, parts.1)) in
        omega (arith, layer_of-rule symbol rule within, parts.0, parts.1)
  ]

  -- no layer is above the number of rules
  pub layer_of-low : (symbol : ℕ) → symbol < symbol_count alphabet rules → layer_of alphabet rules symbol ≤ length rules
  layer_of-low symbol within = omega (arith, low_to (suc symbol) symbol (omega arith) within)

  -- a symbol of layer 0 is a terminal, and each other one is a rule
  pub is_terminal : (symbol : ℕ) → symbol < symbol_count alphabet rules → layer_of alphabet rules symbol ≡ 0 → symbol < alphabet
  is_terminal symbol within low = elim (cases_lt symbol alphabet) [
    | inl terminal ↦ terminal
    | inr rule ↦ absurd (omega (arith, layer_of-rule symbol rule within))
  ]

  pub is_rule : (symbol : ℕ) → 0 < layer_of alphabet rules symbol → alphabet ≤ symbol
  is_rule symbol high = elim (cases_lt symbol alphabet) [
    | inl terminal ↦ absurd (omega (arith, layer_of-terminal symbol terminal))
    | inr rule ↦ rule
  ]

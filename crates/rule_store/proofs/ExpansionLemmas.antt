-- What each symbol stands for, and how deep it is: of a terminal, and of a rule whose parts are below it.
use Rattle.std.proofs.Common.{◌≡◌, ℕ, ◌+◌, ◌<◌, [], ◌∷◌, ◌++◌, length, get_or, map, max, refl, ap, sym, ◌∙◌, arith}
use Rattle.std.specs.Prelude.{slice_index}
use Rattle.std.specs.List.{range_with_len}
use Rattle.std.proofs.lemmas.List.{map-append, length-map}
use Rattle.std.proofs.lemmas.List.FromFn.{length-map-range_with_len}
use Rattle.list_laws.specs.Grown.{table_of_rules}
use Rattle.list_laws.proofs.GrownLemmas.{length-table_of_rules}
use Rattle.list_laws.proofs.RuleLemmas.{table_of_rules-at_rule, table_of_rules-at_terminal}
use Rattle.rule_store.specs.View.{RulesView, symbols_in}
use Rattle.rule_store.specs.Expansion.{depth_above, depth_of, depths, expansion_of, values_of}
use Rattle.rule_store.specs.Flaws.{rule_parts}
use Rattle.rule_store.specs.Entry.{duration_of}

-- a table's length counts the terminals, so that rule j stands at their number and j
rule_place : {A : Type 0} (f : ℕ → A) (size j : ℕ) → length (map f (range_with_len 0 size)) + j ≡ size + j
rule_place f size j = omega (arith, length-map-range_with_len f 0 size)

module _ (view : RulesView) where
  -- of a terminal
  pub expansion_of-terminal : (symbol : ℕ) → symbol < length view.alphabet → expansion_of view symbol ≡ symbol ∷ []
  unfolding expansion_of
  expansion_of-terminal symbol below =
      table_of_rules-at_terminal ◌++◌ [] (λ terminal. terminal ∷ []) (length view.alphabet) view.rules symbol below

  pub values_of-terminal : (symbol : ℕ) → symbol < length view.alphabet →
      values_of view symbol ≡ slice_index view.alphabet symbol ∷ []
  unfolding values_of
  values_of-terminal symbol below = ap (map (slice_index view.alphabet)) (expansion_of-terminal symbol below)

  pub depth_of-terminal : (symbol : ℕ) → symbol < length view.alphabet → depth_of view symbol ≡ 0
  unfolding depth_of
  depth_of-terminal symbol below =
      table_of_rules-at_terminal depth_above 0 (λ terminal. 0) (length view.alphabet) view.rules symbol below

  -- of a rule
  module _ (j : ℕ) (left right : ℕ) (within : j < length view.rules) (is : rule_parts view.rules j ≡ (left, right))
      (left_below : left < length view.alphabet + j) (right_below : right < length view.alphabet + j) where
    pub expansion_of-rule :
        expansion_of view (length view.alphabet + j) ≡ expansion_of view left ++ expansion_of view right
    unfolding expansion_of
    expansion_of-rule =
        let known = map (λ (terminal : ℕ). terminal ∷ []) (range_with_len 0 (length view.alphabet)) in
        let place : length known + j ≡ length view.alphabet + j =
        rule_place (λ terminal. terminal ∷ []) (length view.alphabet) j in
        ap (λ k. get_or (table_of_rules ◌++◌ [] known view.rules) k []) (sym place)
        ∙ table_of_rules-at_rule ◌++◌ [] known view.rules j (left, right) within is (omega arith) (omega arith)

    pub values_of-rule : values_of view (length view.alphabet + j) ≡ values_of view left ++ values_of view right
    unfolding values_of
    values_of-rule =
        ap (map (slice_index view.alphabet)) expansion_of-rule
        ∙ map-append (slice_index view.alphabet) (expansion_of view left) (expansion_of view right)

    pub depth_of-rule : depth_of view (length view.alphabet + j) ≡ 1 + max (depth_of view left) (depth_of view right)
    unfolding depth_of
    depth_of-rule =
        let known = map (λ (terminal : ℕ). 0) (range_with_len 0 (length view.alphabet)) in
        let place : length known + j ≡ length view.alphabet + j = rule_place (λ terminal. 0) (length view.alphabet) j in
        ap (λ k. get_or (table_of_rules depth_above 0 known view.rules) k 0) (sym place)
        ∙ table_of_rules-at_rule depth_above 0 known view.rules j (left, right) within is (omega arith) (omega arith)

  -- there is a depth for each symbol
  pub length-depths : length (depths (length view.alphabet) view.rules) ≡ symbols_in view
  length-depths =
      omega (
        arith,
        length-table_of_rules depth_above 0 (map (λ terminal. 0) (range_with_len 0 (length view.alphabet))) view.rules,
        length-map-range_with_len {X = ℕ} (λ terminal. 0) 0 (length view.alphabet),
      )

  -- a value for each terminal of the expansion
  pub length-values_of : (symbol : ℕ) → length (values_of view symbol) ≡ duration_of view symbol
  unfolding values_of duration_of
  length-values_of symbol = rw length-map refl

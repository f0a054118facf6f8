-- A rule by its symbol: what its two parts, which are below it, tell of it.
use Rattle.std.proofs.Common.{◌≡◌, ℕ, ◌+◌, ◌-◌, ◌<◌, ◌≤◌, ℤ, List, [], ◌∷◌, ◌++◌, length, max, refl, ap, sym, ◌∙◌, arith}
use Rattle.std.proofs.lemmas.List.{append_assoc}
use Rattle.list_laws.proofs.GreatestLemmas.{fold_max-at}
use Rattle.track_types.specs.declared.cell.Cell.{Cell}
use Rattle.rule_store.specs.View.{RulesView, symbols_in}
use Rattle.rule_store.specs.Expansion.{depth_in, depth_of, depths, expansion_of, values_of}
use Rattle.rule_store.specs.Flaws.{AreRules, left_of, right_of}
use Rattle.rule_store.specs.Log.{log_values, stops_after}
use Rattle.rule_store.specs.Nodes.{RuleNode, nodes_in, parsed}
use Rattle.rule_store.proofs.ExpansionLemmas.{depth_of-rule, expansion_of-rule, values_of-rule}
use Rattle.rule_store.proofs.FlawLemmas.{no_flaws, rule-sound}
use Rattle.rule_store.proofs.LogLemmas.{stops_after-rule}
use Rattle.rule_store.proofs.NodeLemmas.{nodes_in-rule, parsed-terminals}

-- no symbol is deeper than the deepest
pub depth_of-deepest : (rules : RulesView) (symbol : ℕ) → depth_of rules symbol ≤ depth_in rules
unfolding depth_of depth_in
depth_of-deepest rules symbol = fold_max-at (depths (length rules.alphabet) rules.rules) 0 symbol

-- the parts of a rule are below it
pub parts-below : (rules : RulesView) (symbol : ℕ) → AreRules rules → length rules.alphabet ≤ symbol →
    symbol < symbols_in rules → (left_of rules symbol < symbol) × (right_of rules symbol < symbol)
parts-below rules symbol sound rule known =
    let own = rule-sound rules (symbol - length rules.alphabet) (no_flaws rules sound.flawless).rules (omega arith) in
    (omega (arith, own.left), omega (arith, own.right))

module _ (rules : RulesView) (symbol : ℕ) (rule : length rules.alphabet ≤ symbol) (known : symbol < symbols_in rules)
    (left_below : left_of rules symbol < symbol) (right_below : right_of rules symbol < symbol) where
  -- the number of the rule
  number : ℕ
  number = symbol - length rules.alphabet

  place : length rules.alphabet + number ≡ symbol
  unfolding number
  place = omega arith

  within : number < length rules.rules
  unfolding number
  within = omega arith

  left_low : left_of rules symbol < length rules.alphabet + number
  left_low = omega (arith, place, left_below)

  right_low : right_of rules symbol < length rules.alphabet + number
  right_low = omega (arith, place, right_below)

  pub values_of-parts :
      values_of rules symbol ≡ values_of rules (left_of rules symbol) ++ values_of rules (right_of rules symbol)
  unfolding number
  values_of-parts =
      ap (values_of rules) (sym place)
      ∙ values_of-rule rules number (left_of rules symbol) (right_of rules symbol) within refl left_low right_low

  pub depth_of-parts :
      depth_of rules symbol ≡ 1 + max (depth_of rules (left_of rules symbol)) (depth_of rules (right_of rules symbol))
  unfolding number
  depth_of-parts =
      ap (depth_of rules) (sym place)
      ∙ depth_of-rule rules number (left_of rules symbol) (right_of rules symbol) within refl left_low right_low

  module _ (log : List ℕ) where
    -- with the symbols after it
    pub log_values-parts :
        log_values rules (symbol ∷ log) ≡ log_values rules (left_of rules symbol ∷ right_of rules symbol ∷ log)
    unfolding log_values
    log_values-parts =
        ap (λ values. values ++ log_values rules log) values_of-parts
        ∙ append_assoc (values_of rules (left_of rules symbol)) (values_of rules (right_of rules symbol))
        (log_values rules log)

    pub stops_after-parts : (instant : ℤ) (cell : Cell) →
        stops_after rules instant cell (symbol ∷ log)
        ≡ stops_after rules instant cell (left_of rules symbol ∷ right_of rules symbol ∷ log)
    unfolding number
    stops_after-parts instant cell =
        ap (λ s. stops_after rules instant cell (s ∷ log)) (sym place)
        ∙ stops_after-rule rules instant cell number (left_of rules symbol) (right_of rules symbol) log within refl
        left_low right_low

    -- its own node, and those of its parts
    pub nodes_in-parts :
        nodes_in rules (symbol ∷ log)
        ≡ record { before = []; inside = expansion_of rules symbol }
        ∷ nodes_in rules (left_of rules symbol ∷ right_of rules symbol ∷ log)
    unfolding number
    nodes_in-parts =
        let left = left_of rules symbol in
        let right = right_of rules symbol in
        let inside : (parsed rules left).terminals ++ (parsed rules right).terminals ≡ expansion_of rules symbol =
        ap (λ terminals. terminals ++ (parsed rules right).terminals) (parsed-terminals rules left)
        ∙ ap (λ terminals. expansion_of rules left ++ terminals) (parsed-terminals rules right)
        ∙ sym (expansion_of-rule rules number left right within refl left_low right_low)
        ∙ ap (expansion_of rules) place in
        ap (λ s. nodes_in rules (s ∷ log)) (sym place)
        ∙ nodes_in-rule rules number left right log within refl left_low right_low
        ∙ ap {B = List RuleNode} (λ i. record { before = []; inside = i } ∷ nodes_in rules (left ∷ right ∷ log)) inside

-- Parse trees: the terminals and nodes of a rule and of a log, by the parts of the rule.
use Rattle.std.proofs.Common.{◌≡◌, ℕ, ◌+◌, ◌<◌, ℤ, Bool, List, [], ◌∷◌, ◌++◌, length, map, get_or, refl, ap, sym, ◌∙◌, arith}
use Rattle.std.specs.List.{range_with_len}
use Rattle.std.proofs.lemmas.List.{append_assoc, map-append}
use Rattle.std.proofs.lemmas.Simd.{map-map}
use Rattle.std.proofs.Math.ListN.{get_or-map}
use Rattle.std.proofs.lemmas.List.FromFn.{length-map-range_with_len}
use Rattle.list_laws.specs.Grown.{table_of_rules}
use Rattle.list_laws.proofs.GrownLemmas.{KeepsJoins, map-table_of_rules}
use Rattle.list_laws.proofs.RuleLemmas.{table_of_rules-at_rule}
use Rattle.rule_store.specs.View.{RulesView}
use Rattle.rule_store.specs.Expansion.{expansion_of}
use Rattle.rule_store.specs.Flaws.{rule_parts}
use Rattle.rule_store.specs.Nodes.{RuleNode, Parsed, after, is_opened, leaf, nodes_in, opened_count, parsed, parsed_with, unparsed}

-- after two lists of terminals
after-after : (xs ys : List ℕ) (node : RuleNode) → after xs (after ys node) ≡ after (xs ++ ys) node
after-after xs ys node =
    ap {B = RuleNode} (λ before. record { before = before; inside = node.inside }) (sym (append_assoc xs ys node.before))

map_after-map_after : (xs ys : List ℕ) (nodes : List RuleNode) →
    map (after xs) (map (after ys) nodes) ≡ map (after (xs ++ ys)) nodes
map_after-map_after xs ys [] = refl
map_after-map_after xs ys (node ∷ nodes) =
    rw (after-after xs ys node, map_after-map_after xs ys nodes) refl

module _ (view : RulesView) where
  pub parsed-rule : (j left right : ℕ) → j < length view.rules → rule_parts view.rules j ≡ (left, right) →
      left < length view.alphabet + j → right < length view.alphabet + j →
      parsed view (length view.alphabet + j) ≡ parsed_with (parsed view left) (parsed view right)
  unfolding parsed
  parsed-rule j left right within is left_below right_below =
      let known = map leaf (range_with_len 0 (length view.alphabet)) in
      let many : length known ≡ length view.alphabet = length-map-range_with_len leaf 0 (length view.alphabet) in
      let place : length known + j ≡ length view.alphabet + j = omega (arith, many) in
      ap (λ k. get_or (table_of_rules parsed_with unparsed known view.rules) k unparsed) (sym place)
      ∙ table_of_rules-at_rule parsed_with unparsed known view.rules j (left, right) within is (omega (arith, many))
      (omega (arith, many))

  -- the nodes of a rule and of a log after it are its own, and those of its two parts and the log
  pub nodes_in-rule : (j left right : ℕ) (log : List ℕ) → j < length view.rules → rule_parts view.rules j ≡ (left, right) →
      left < length view.alphabet + j → right < length view.alphabet + j →
      nodes_in view ((length view.alphabet + j) ∷ log)
      ≡ record { before = []; inside = (parsed view left).terminals ++ (parsed view right).terminals }
      ∷ nodes_in view (left ∷ right ∷ log)
  unfolding nodes_in
  nodes_in-rule j left right log within is left_below right_below =
      let one = parsed view left in
      let other = parsed view right in
      let later = nodes_in view log in
      let both = one.terminals ++ other.terminals in
      ap (λ (tree : Parsed). tree.nodes ++ map (after tree.terminals) later)
      (parsed-rule j left right within is left_below right_below)
      ∙ ap (λ rest. record { before = []; inside = both } ∷ rest)
      (append_assoc one.nodes (map (after one.terminals) other.nodes) (map (after both) later)
      ∙ ap (λ rest. one.nodes ++ rest)
      (ap (λ rest. map (after one.terminals) other.nodes ++ rest)
      (sym (map_after-map_after one.terminals other.terminals later))
      ∙ sym (map-append (after one.terminals) other.nodes (map (after other.terminals) later))))

  pub opened_count-none : (instant from to : ℤ) → opened_count view instant [] from to ≡ 0
  unfolding opened_count nodes_in
  opened_count-none instant from to = refl

  -- the terminals of a parse tree are the expansion
  pub parsed-terminals : (symbol : ℕ) → (parsed view symbol).terminals ≡ expansion_of view symbol
  unfolding parsed expansion_of
  parsed-terminals symbol =
      let terminals : Parsed → List ℕ = λ tree. tree.terminals in
      let known = map leaf (range_with_len 0 (length view.alphabet)) in
      let keeps : KeepsJoins terminals parsed_with unparsed ◌++◌ [] =
      record { none = refl; join = λ left right. refl } in
      sym (get_or-map terminals (table_of_rules parsed_with unparsed known view.rules) symbol unparsed)
      ∙ ap (λ table. get_or table symbol []) (map-table_of_rules terminals parsed_with unparsed ◌++◌ [] keeps known view.rules)
      ∙ ap (λ table. get_or (table_of_rules ◌++◌ [] table view.rules) symbol [])
      (map-map terminals leaf (range_with_len 0 (length view.alphabet)))

  -- the node of a rule, in a block whose anchor is at some instant: its instants meet the window, and it has a box
  abbrev pub opens : ℤ → ℤ → ℤ → ℕ → Bool
  opens instant from to symbol =
      is_opened view instant from to (record { before = []; inside = expansion_of view symbol })

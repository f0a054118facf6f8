-- Which rules are close to a node of the other block, where nodes are taken off.
use Rattle.std.proofs.Common.{◌≡◌, ℕ, ℤ, Bool, true, false, ◌||◌, IsTrue, List, [], ◌∷◌, ◌++◌, filter, map, refl, ap, ◌∙◌, inl, inr}
use Rattle.std.specs.List.{list_any}
use Rattle.std.specs.Str.{bytes_eq}
use Rattle.std.proofs.lemmas.Bool.{cases_Bool, or_left, or_right}
use Rattle.std.proofs.lemmas.List.Elements.{filter-append}
use Rattle.std.proofs.lemmas.List.Folds.{list_any-append}
use Rattle.track_types.specs.declared.stop.Stop.{Stop}
use Rattle.rule_store.specs.View.{RulesView}
use Rattle.rule_store.specs.Expansion.{expansion_of}
use Rattle.log_cursor.specs.Needs.{RulesWithin}
use Rattle.encounter.specs.Party.{both_trees}
use Rattle.encounter.specs.Span.{Span, BlockTree, close_rule, is_close, rule_with, tree_nodes, span_at}
use Rattle.encounter.proofs.CountLemmas.{any-later, any-opened}

-- either of two tests, by either of two others
or-either : (a b c d : Bool) → (a ≡ true → c ≡ true) → (b ≡ true → d ≡ true) → (a || b) ≡ true → (c || d) ≡ true
or-either true b c d first second some = or_left c d (first refl)
or-either false b c d first second some = or_right c d (second some)

module _ (rules : RulesView) (test : Span → Span → Bool) where
  -- the rules of fewer nodes
  pub rule_with-fewer : (front nodes others : List Span) →
      RulesWithin (rule_with rules test nodes others) (rule_with rules test (front ++ nodes) others)
  unfolding rule_with
  rule_with-fewer front nodes others rule is =
      let named : Span → Bool = λ node. bytes_eq (expansion_of rules rule) node.inside in
      let counts : Span → Bool = λ node. list_any (test node) others in
      ap (list_any named) (filter-append counts front nodes)
      ∙ list_any-append named (filter counts front) (filter counts nodes)
      ∙ or_right (list_any named (filter counts front)) _ is

  -- with fewer others, each of which is one of the others
  pub rule_with-weaker : (nodes some others : List Span) →
      ((node : Span) → list_any (test node) some ≡ true → list_any (test node) others ≡ true) →
      RulesWithin (rule_with rules test nodes some) (rule_with rules test nodes others)
  unfolding rule_with
  rule_with-weaker [] some others more rule is = is
  rule_with-weaker (node ∷ nodes) some others more rule is = elim (cases_Bool (list_any (test node) some)) [
    | inl counts ↦
        let named : Bool = bytes_eq (expansion_of rules rule) node.inside in
        rw (more node counts) (or-either named _ named _ (λ own. own) (rule_with-weaker nodes some others more rule)
        (rw counts at is))
    | inr none ↦ rule_with-fewer (node ∷ []) nodes others rule (rule_with-weaker nodes some others more rule (rw none at is))
  ]

  -- the rule of a node that counts
  pub rule_with-one : (node : Span) (nodes others : List Span) → list_any (test node) others ≡ true → (rule : ℕ) →
      IsTrue (bytes_eq (expansion_of rules rule) node.inside) → IsTrue (rule_with rules test (node ∷ nodes) others rule)
  unfolding rule_with
  rule_with-one node nodes others counts rule is = rw (counts, is) refl

module _ (rules : RulesView) (from to : ℤ) (reach : ℕ) where
  abbrev near : Span → Span → Bool
  near = is_close from to reach

  abbrev near_of : Span → Span → Bool
  near_of node other = is_close from to reach other node

  -- the rules after a node that is passed are close before it is passed
  pub close_rule-left : (own later right : BlockTree) →
      RulesWithin (close_rule rules from to reach later right) (close_rule rules from to reach (both_trees own later) right)
  unfolding close_rule
  close_rule-left own later right rule =
      or-either _ _ _ _ (rule_with-fewer rules near own.rules later.rules (tree_nodes right) rule)
      (rule_with-weaker rules near_of right.rules (tree_nodes later) (tree_nodes (both_trees own later))
      (λ node some. any-later (near_of node) own later some) rule)

  pub close_rule-right : (left own later : BlockTree) →
      RulesWithin (close_rule rules from to reach left later) (close_rule rules from to reach left (both_trees own later))
  unfolding close_rule
  close_rule-right left own later rule =
      or-either _ _ _ _ (rule_with-weaker rules near left.rules (tree_nodes later) (tree_nodes (both_trees own later))
      (λ node some. any-later (near node) own later some) rule)
      (rule_with-fewer rules near_of own.rules later.rules (tree_nodes left) rule)

  -- so are those that are left where a rule gives way to its parts
  pub close_rule-left_opened : (node : Span) (stops : List Stop) (nodes : List Span) (right : BlockTree) →
      RulesWithin (close_rule rules from to reach (record { stops = stops; rules = nodes }) right)
      (close_rule rules from to reach (record { stops = stops; rules = node ∷ nodes }) right)
  unfolding close_rule
  close_rule-left_opened node stops nodes right rule =
      or-either _ _ _ _ (rule_with-fewer rules near (node ∷ []) nodes (tree_nodes right) rule)
      (rule_with-weaker rules near_of right.rules (map span_at stops ++ nodes) (map span_at stops ++ node ∷ nodes)
      (λ other some. any-opened (near_of other) node stops nodes some) rule)

  pub close_rule-right_opened : (left : BlockTree) (node : Span) (stops : List Stop) (nodes : List Span) →
      RulesWithin (close_rule rules from to reach left (record { stops = stops; rules = nodes }))
      (close_rule rules from to reach left (record { stops = stops; rules = node ∷ nodes }))
  unfolding close_rule
  close_rule-right_opened left node stops nodes rule =
      or-either _ _ _ _ (rule_with-weaker rules near left.rules (map span_at stops ++ nodes)
      (map span_at stops ++ node ∷ nodes) (λ other some. any-opened (near other) node stops nodes some) rule)
      (rule_with-fewer rules near_of (node ∷ []) nodes (tree_nodes left) rule)

  -- the first rule is close, where it is close to a node of the other block
  pub close_rule-left_first : (node : Span) (stops : List Stop) (nodes : List Span) (right : BlockTree) →
      list_any (near node) (tree_nodes right) ≡ true → (rule : ℕ) →
      IsTrue (bytes_eq (expansion_of rules rule) node.inside) →
      IsTrue (close_rule rules from to reach (record { stops = stops; rules = node ∷ nodes }) right rule)
  unfolding close_rule
  close_rule-left_first node stops nodes right counts rule is =
      or_left _ _ (rule_with-one rules near node nodes (tree_nodes right) counts rule is)

  pub close_rule-right_first : (left : BlockTree) (node : Span) (stops : List Stop) (nodes : List Span) →
      list_any (near_of node) (tree_nodes left) ≡ true → (rule : ℕ) →
      IsTrue (bytes_eq (expansion_of rules rule) node.inside) →
      IsTrue (close_rule rules from to reach left (record { stops = stops; rules = node ∷ nodes }) rule)
  unfolding close_rule
  close_rule-right_first left node stops nodes counts rule is =
      or_right _ _ (rule_with-one rules near_of node nodes (tree_nodes left) counts rule is)

-- The order of rules in a file is that of settled rules.
use Rattle.std.proofs.Common.{◌≡◌, ℕ, zero, suc, ◌+◌, ◌<◌, true, false, Bool, List, [], ◌∷◌, length, get_or, refl, sym, ap, ◌∙◌, arith}
use Rattle.std.specs.Prelude.{not, zip}
use Rattle.std.specs.Ordering.{is_lt}
use Rattle.std.proofs.lemmas.Bool.{and_parts, lt-ltb}
use Rattle.std.proofs.lemmas.Bool.Decides.{nat_tests}
use Rattle.std.proofs.lemmas.List.{get_or-drop, length-drop}
use Rattle.std.proofs.lemmas.Slice.Zip.{get_or-zip, length-zip}
use Rattle.list_laws.proofs.GrownLemmas.{length-table_of_rules}
use Rattle.rule_store.specs.Expansion.{depth_above, depths}
use Rattle.rule_store.specs.Flaws.{rule_parts}
use Rattle.rule_order.specs.Layers.{layer_of}
use Rattle.rule_order.specs.Order.{IsSettled, key_order, rule_key}
use Rattle.index_format.specs.IsOutline.{AreInOrder, all_follow, may_follow}
use Rattle.index_format.specs.OutlineRules.{layers_of}
use Rattle.index_format.proofs.DepthLemmas.{known-terminals, terminals_of}
use Rattle.index_format.proofs.SplitLemmas.{below_of}

-- where a test's opposite is true, it is not
not-true : (b : Bool) → not b ≡ true → b ≡ false
not-true true is = absurd (let e = is in cc)
not-true false is = refl

-- a rule, known by its layer
abbrev Known : Type 0
Known = ℕ × (ℕ × ℕ)

-- one may follow another if and only if it does not come before it
may_follow-order : (a b : Known) → may_follow a b ≡ not (is_lt (key_order b a))
may_follow-order a b = grind (arith, nat_tests)

-- what may follow one that may follow another may follow that
may_follow-trans : (a b c : Known) → may_follow a b ≡ true → may_follow b c ≡ true → may_follow a c ≡ true
may_follow-trans a b c first second = grind (arith, nat_tests, first, second)

-- in a list in which each may follow the one before it, each may follow all before it
all_follow-pairs : (xs : List Known) (d : Known) (i j : ℕ) → all_follow may_follow xs ≡ true → i < j → j < length xs
    → may_follow (get_or xs i d) (get_or xs j d) ≡ true
unfolding all_follow
all_follow-pairs [] d i j follow less some = absurd (omega arith)
all_follow-pairs (first ∷ []) d i j follow less some = absurd (omega arith)
all_follow-pairs (first ∷ second ∷ rest) d i zero follow less some = absurd (omega arith)
all_follow-pairs (first ∷ second ∷ rest) d zero (suc zero) follow less some =
    (and_parts (may_follow first second) (all_follow may_follow (second ∷ rest)) follow).0
all_follow-pairs (first ∷ second ∷ rest) d zero (suc (suc j)) follow less some =
    let both = and_parts (may_follow first second) (all_follow may_follow (second ∷ rest)) follow in
    may_follow-trans first second (get_or rest j d) both.0 (all_follow-pairs (second ∷ rest) d zero (suc j) both.1 (omega arith) (omega arith))
all_follow-pairs (first ∷ second ∷ rest) d (suc i) (suc j) follow less some =
    let both = and_parts (may_follow first second) (all_follow may_follow (second ∷ rest)) follow in
    all_follow-pairs (second ∷ rest) d i j both.1 (omega arith) (omega arith)

-- and the other way round
all_follow-steps : (xs : List Known) (d : Known) → ((i : ℕ) → suc i < length xs → may_follow (get_or xs i d) (get_or xs (suc i) d) ≡ true)
    → all_follow may_follow xs ≡ true
unfolding all_follow
all_follow-steps [] d steps = refl
all_follow-steps (first ∷ []) d steps = refl
all_follow-steps (first ∷ second ∷ rest) d steps =
    rw (steps 0 (omega arith)) (all_follow-steps (second ∷ rest) d (λ i some. steps (suc i) (omega arith)))

module _ (terminals : ℕ) (rules : List (ℕ × ℕ)) where
  -- rules with their layers in front
  abbrev known : List Known
  known = zip (layers_of terminals rules) rules

  -- a layer for each rule
  length-layers : length (layers_of terminals rules) ≡ length rules
  length-layers =
      omega (
        arith,
        length-drop terminals (depths terminals rules),
        length-table_of_rules depth_above 0 (terminals_of terminals) rules,
        (known-terminals terminals).1,
      )

  -- what stands there of rule j
  known-at : (j : ℕ) → j < length rules → get_or known j (0, (0, 0)) ≡ rule_key terminals rules j
  unfolding layer_of
  known-at j some =
      get_or-zip (layers_of terminals rules) rules j (0, (0, 0)) (omega (arith, some, length-layers)) some
      ∙ ap (λ layer. (layer, rule_parts rules j)) (get_or-drop terminals (depths terminals rules) j 0)

  -- there are as many
  length-known : length known ≡ length rules
  length-known = omega (arith, length-zip (layers_of terminals rules) rules, length-layers)

  -- settled rules are in order
  pub settled-in_order : IsSettled terminals rules → AreInOrder terminals rules
  settled-in_order settled = record {
    below = λ j some. let is = settled.below j some in
        rw (lt-ltb (rule_parts rules j).0 (terminals + j) is.0, lt-ltb (rule_parts rules j).1 (terminals + j) is.1) refl;
    sorted = all_follow-steps known (0, (0, 0)) (λ i some.
        let within : suc i < length rules = omega (arith, some, length-known) in
        let here = known-at i (omega (arith, within)) in
        let next = known-at (suc i) within in
        let one = rule_key terminals rules i in
        let other = rule_key terminals rules (suc i) in
        ap (λ rule. may_follow rule (get_or known (suc i) (0, (0, 0)))) here ∙ ap (may_follow one) next
        ∙ may_follow-order one other ∙ ap not (settled.sorted i (suc i) (omega arith) within));
  }

  -- rules in order are settled
  pub in_order-settled : AreInOrder terminals rules → IsSettled terminals rules
  in_order-settled order = record {
    below = λ j some. let is = below_of (terminals + j) (rule_parts rules j) (order.below j some) in (is.left, is.right);
    sorted = λ i j less some.
        let here = known-at i (omega (arith, less, some)) in
        let there = known-at j some in
        let one = rule_key terminals rules i in
        let other = rule_key terminals rules j in
        not-true (is_lt (key_order other one)) (sym (may_follow-order one other) ∙ sym (ap (λ rule. may_follow rule other) here)
        ∙ sym (ap (may_follow (get_or known i (0, (0, 0)))) there)
        ∙ all_follow-pairs known (0, (0, 0)) i j order.sorted less (omega (arith, some, length-known)));
  }

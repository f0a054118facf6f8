-- Rules in order fall into layers, one above the other.
use Rattle.std.proofs.Common.{◌≡◌, ℕ, suc, ◌+◌, ◌<◌, ◌≤◌, true, false, Some, None, List, [], ◌∷◌, ◌++◌, length, get_or, drop, refl, sym, ap, subst, ◌∙◌, ◌⊎◌, inl, inr, arith}
use Rattle.std.specs.Prelude.{zip}
use Rattle.std.proofs.lemmas.Bool.{and_parts, cases_lt}
use Rattle.std.proofs.lemmas.Bool.Decides.{nat_tests}
use Rattle.std.proofs.lemmas.List.{length-append}
use Rattle.rule_store.specs.Expansion.{depths}
use Rattle.rule_store.specs.Flaws.{are_below}
use Rattle.index_format.specs.IsOutline.{AreInOrder, all_follow, may_follow}
use Rattle.index_format.specs.OutlineRules.{layer_floor}
use Rattle.index_format.specs.LayerLists.{Follows, IsLayer, AreLayers, rules_of}
use Rattle.index_format.proofs.DepthLemmas.{IsKnown, depth-follows, depth_over, known-more, known-turn, known-most, known-terminals, labelled, labelled-rule, terminals_of}

-- both parts are known symbols
pub record IsBelow (here : ℕ) (rule : ℕ × ℕ) : Type 0 where
  pub left : rule.0 < here
  pub right : rule.1 < here

-- from the test
pub below_of : (here : ℕ) (rule : ℕ × ℕ) → are_below here rule ≡ true → IsBelow here rule
below_of here rule test = record { left = grind (arith, nat_tests, test); right = grind (arith, nat_tests, test) }

-- no part is under the floor of one that is not below the base
floor-high : (base left right : ℕ) → base ≤ left → layer_floor base left ≤ right
floor-high base left right over = grind (arith, nat_tests, over)

-- a floor is the base at most
floor-right : (base left right : ℕ) → base ≤ right → layer_floor base left ≤ right
floor-right base left right over = grind (arith, nat_tests, over)

-- a rule of this layer, by its parts
pub record IsIn (base top : ℕ) (rule : ℕ × ℕ) : Type 0 where
  pub left : rule.0 < top
  pub right : rule.1 < top
  pub floor : layer_floor base rule.0 ≤ rule.1

module _ {base top layer : ℕ} {known : List ℕ} (is : IsKnown base top layer known) (rule : ℕ × ℕ) (below : IsBelow (length known) rule) where
  -- a symbol that a rule of the layer may have
  known-under : (i : ℕ) → i < top → get_or known i 0 + 1 ≤ layer
  known-under i under = elim (cases_lt i base) [
    | inl low ↦ omega (arith, is.low i low)
    | inr high ↦ omega (arith, is.middle i high under)
  ]

  -- a rule is in this layer, or in the next one, or in one below it
  pub where_in : ((depth_over known rule ≡ layer) × IsIn base top rule)
      ⊎ (((depth_over known rule ≡ suc layer) × IsIn top (length known) rule) ⊎ (depth_over known rule < layer))
  where_in = elim (cases_lt rule.0 top) [
    | inl left ↦ elim (cases_lt rule.1 top) [
      | inl right ↦ elim (cases_lt rule.0 base) [
        | inl left_low ↦ elim (cases_lt rule.1 base) [
          | inl right_low ↦ inr (inr (omega (arith, is.low rule.0 left_low, is.low rule.1 right_low)))
          | inr right_high ↦ inl (
            omega (arith, is.low rule.0 left_low, is.middle rule.1 right_high right),
            record { left = left; right = right; floor = floor-right base rule.0 rule.1 right_high },
          )
        ]
        | inr left_high ↦ inl (
          omega (arith, is.middle rule.0 left_high left, known-under rule.1 right),
          record { left = left; right = right; floor = floor-high base rule.0 rule.1 left_high },
        )
      ]
      | inr right ↦ inr (inl (
        omega (arith, is.high rule.1 right below.right, known-most is rule.0 below.left),
        record { left = below.left; right = below.right; floor = floor-right top rule.0 rule.1 right },
      ))
    ]
    | inr left ↦ inr (inl (
      omega (arith, is.high rule.0 left below.left, known-most is rule.1 below.right),
      record { left = below.left; right = below.right; floor = floor-high top rule.0 rule.1 left },
    ))
  ]

-- a rule of a lower layer may not follow
back-fails : (layer depth : ℕ) (before rule : ℕ × ℕ) → depth < layer → may_follow (layer, before) (depth, rule) ≡ false
back-fails layer depth before rule lower = grind (arith, nat_tests, lower)

-- one of the same layer that may follow comes after
follows_of : (base top layer : ℕ) (before rule : ℕ × ℕ) → IsIn base top rule → may_follow (layer, before) (layer, rule) ≡ true
    → Follows base top (Some before) rule
follows_of base top layer before rule is may = record {
  left = is.left;
  right = is.right;
  floor = is.floor;
  left_rises = grind (arith, nat_tests, may);
  right_rises = let floor = is.floor in grind (arith, nat_tests, may, floor);
}

-- the first of a layer
first_of : (base top : ℕ) (rule : ℕ × ℕ) → IsIn base top rule → Follows base top None rule
first_of base top rule is = record { left = is.left; right = is.right; floor = is.floor; left_rises = omega arith; right_rises = is.floor }

-- rules after one of a layer: those of the same layer, and the layers above it
pub record Split (base top here : ℕ) (before : ℕ × ℕ) (rules : List (ℕ × ℕ)) : Type 0 where
  pub rest : List (ℕ × ℕ)
  pub layers : List (List (ℕ × ℕ))
  pub whole : rules ≡ rest ++ rules_of layers
  pub layer : IsLayer base top (Some before) rest
  pub others : AreLayers top (here + length rest) layers

-- the parts of each rule are known where it comes
abbrev pub AreBelow : ℕ → List (ℕ × ℕ) → Type 0
AreBelow here rules = (j : ℕ) → j < length rules → are_below (here + j) (get_or rules j (0, 0)) ≡ true

-- each rule after a first one
below-after : (here next : ℕ) (rule : ℕ × ℕ) (rules : List (ℕ × ℕ)) → next ≡ here + 1 → AreBelow here (rule ∷ rules) → AreBelow next rules
below-after here next rule rules is below j some =
    let same : here + suc j ≡ next + j = omega (arith, is) in
    subst (λ n. are_below n (get_or rules j (0, 0)) ≡ true) same (below (suc j) (omega arith))

-- the first one
below-first : (here : ℕ) (rule : ℕ × ℕ) (rules : List (ℕ × ℕ)) → AreBelow here (rule ∷ rules) → IsBelow here rule
below-first here rule rules below =
    let same : here + 0 ≡ here = omega arith in
    below_of here rule (subst (λ n. are_below n rule ≡ true) same (below 0 (omega arith)))

-- the rules after one, in order
split : (rules : List (ℕ × ℕ)) (base top layer : ℕ) (known : List ℕ) (before : ℕ × ℕ) → IsKnown base top layer known → AreBelow (length known) rules
    → all_follow may_follow ((layer, before) ∷ labelled known rules) ≡ true → Split base top (length known) before rules
unfolding all_follow rules_of IsLayer AreLayers
split [] base top layer known before is below sorted =
    record { rest = []; layers = []; whole = refl; layer = tt; others = tt }
split (rule ∷ rules) base top layer known before is below sorted =
    let depth = depth_over known rule in
    let next = known ++ depth ∷ [] in
    let long : length next ≡ length known + 1 = omega (arith, length-append known (depth ∷ [])) in
    let first = below-first (length known) rule rules below in
    let others = below-after (length known) (length next) rule rules long below in
    let step = and_parts (may_follow (layer, before) (depth, rule)) (all_follow may_follow ((depth, rule) ∷ labelled next rules))
    (subst (λ all. all_follow may_follow ((layer, before) ∷ all) ≡ true) (labelled-rule known rule rules) sorted) in
    elim (where_in is rule first) [
      | inl (here) ↦
          let rec = split rules base top layer next rule (subst (λ d. IsKnown base top layer (known ++ d ∷ [])) (sym here.0) (known-more is)) others
          (subst (λ d. all_follow may_follow ((d, rule) ∷ labelled next rules) ≡ true) here.0 step.1) in
          let follows = follows_of base top layer before rule here.1 (subst (λ d. may_follow (layer, before) (d, rule) ≡ true) here.0 step.0) in
          let after : length next + length rec.rest ≡ length known + length (rule ∷ rec.rest) = omega (arith, long) in
          record {
            rest = rule ∷ rec.rest;
            layers = rec.layers;
            whole = ap (λ rules. rule ∷ rules) rec.whole;
            layer = (follows, rec.layer);
            others = subst (λ n. AreLayers top n rec.layers) after rec.others;
          }
      | inr (inl (above)) ↦
          let rec = split rules top (length known) (suc layer) next rule
          (subst (λ d. IsKnown top (length known) (suc layer) (known ++ d ∷ [])) (sym above.0) (known-more (known-turn is))) others
          (subst (λ d. all_follow may_follow ((d, rule) ∷ labelled next rules) ≡ true) above.0 step.1) in
          let mine : List (ℕ × ℕ) = rule ∷ rec.rest in
          let after : length next + length rec.rest ≡ length known + length mine = omega (arith, long) in
          let none : length known ≡ length known + 0 = omega arith in
          record {
            rest = [];
            layers = mine ∷ rec.layers;
            whole = ap (λ rules. rule ∷ rules) rec.whole;
            layer = tt;
            others = subst (λ n. AreLayers top n (mine ∷ rec.layers)) none
                (omega arith, (first_of top (length known) rule above.1, rec.layer), subst (λ n. AreLayers (length known) n rec.layers) after rec.others);
          }
      | inr (inr (back)) ↦ absurd (let e = sym step.0 ∙ back-fails layer depth before rule back in cc)
    ]

-- rules in order are those of layers
pub in_order-layers : (terminals : ℕ) (rules : List (ℕ × ℕ)) → AreInOrder terminals rules
    → (layers : List (List (ℕ × ℕ))) × (rules ≡ rules_of layers) × AreLayers 0 terminals layers
unfolding all_follow rules_of IsLayer AreLayers labelled
in_order-layers terminals [] order = ([], refl, tt)
in_order-layers terminals (rule ∷ rules) order =
    let known = terminals_of terminals in
    let start = known-terminals terminals in
    let first = below-first terminals rule rules order.below in
    let mine : IsIn 0 terminals rule = record { left = first.left; right = first.right; floor = floor-high 0 rule.0 rule.1 (omega arith) } in
    let follows = first_of 0 terminals rule mine in
    let depth : depth_over known rule ≡ 1 = depth-follows start.0 None rule follows in
    let next = known ++ depth_over known rule ∷ [] in
    let long : length next ≡ terminals + 1 = omega (arith, length-append known (depth_over known rule ∷ []), start.1) in
    let sorted : all_follow may_follow (labelled known (rule ∷ rules)) ≡ true =
    subst (λ n. all_follow may_follow (zip (drop n (depths terminals (rule ∷ rules))) (rule ∷ rules)) ≡ true) (sym start.1) order.sorted in
    let it = split rules 0 terminals 1 next rule (subst (λ d. IsKnown 0 terminals 1 (known ++ d ∷ [])) (sym depth) (known-more start.0))
    (below-after terminals (length next) rule rules long order.below)
    (subst (λ d. all_follow may_follow ((d, rule) ∷ labelled next rules) ≡ true) depth (sym (ap (all_follow may_follow) (labelled-rule known rule rules)) ∙ sorted)) in
    let layer : List (ℕ × ℕ) = rule ∷ it.rest in
    let after : length next + length it.rest ≡ terminals + length layer = omega (arith, long) in (
      layer ∷ it.layers,
      ap (λ rules. rule ∷ rules) it.whole,
      (omega arith, (follows, it.layer), subst (λ n. AreLayers terminals n it.layers) after it.others),
    )

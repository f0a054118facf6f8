-- Layers of rules, one above the other, are rules in order.
use Rattle.std.proofs.Common.{◌≡◌, ℕ, zero, suc, ◌+◌, ◌-◌, ◌<◌, ◌≤◌, true, Option, Some, None, List, [], ◌∷◌, ◌++◌, length, get_or, map, drop, refl, sym, ap, subst, ◌∙◌, inl, inr, arith}
use Rattle.std.specs.Prelude.{zip}
use Rattle.rule_store.specs.Expansion.{depths}
use Rattle.std.proofs.Math.ListN.{get_or-append}
use Rattle.std.proofs.lemmas.Bool.{cases_lt, lt-ltb}
use Rattle.std.proofs.lemmas.Bool.Decides.{nat_tests}
use Rattle.std.proofs.lemmas.List.{length-append, get_or-append-add}
use Rattle.rule_store.specs.Flaws.{are_below}
use Rattle.index_format.specs.IsOutline.{AreInOrder, all_follow, may_follow}
use Rattle.index_format.specs.LayerLists.{Follows, IsLayer, AreLayers, rules_of}
use Rattle.index_format.proofs.DepthLemmas.{labelled, labelled-layers, numbered, known-terminals, terminals_of}

-- a rule of the next layer may follow
follow-next : (layer : ℕ) (before rule : ℕ × ℕ) → may_follow (layer, before) (suc layer, rule) ≡ true
follow-next layer before rule = rw (lt-ltb layer (suc layer) (omega arith)) refl

-- a rule of the same layer, which comes after the one before it
follow-same : (base top layer : ℕ) (before rule : ℕ × ℕ) → Follows base top (Some before) rule → may_follow (layer, before) (layer, rule) ≡ true
follow-same base top layer before rule follows =
    let left = follows.left_rises in let right = follows.right_rises in grind (arith, nat_tests, left, right)

-- rules of a layer, and others that may follow any rule of it
follow-layer : (base top layer : ℕ) (before : ℕ × ℕ) (rules : List (ℕ × ℕ)) (more : List (ℕ × (ℕ × ℕ)))
    → ((last : ℕ × ℕ) → all_follow may_follow ((layer, last) ∷ more) ≡ true) → IsLayer base top (Some before) rules
    → all_follow may_follow ((layer, before) ∷ map (λ rule. (layer, rule)) rules ++ more) ≡ true
unfolding IsLayer all_follow
follow-layer base top layer before [] more ends all = ends before
follow-layer base top layer before (rule ∷ rules) more ends all =
    rw (follow-same base top layer before rule all.0) (follow-layer base top layer rule rules more ends all.1)

-- layers above a rule
follow-layers : (base top layer : ℕ) (layers : List (List (ℕ × ℕ))) (before : ℕ × ℕ) → AreLayers base top layers
    → all_follow may_follow ((layer, before) ∷ numbered (suc layer) layers) ≡ true
unfolding AreLayers IsLayer numbered all_follow
follow-layers base top layer [] before are = refl
follow-layers base top layer ([] ∷ layers) before are = absurd (omega (arith, are.0))
follow-layers base top layer ((rule ∷ rules) ∷ layers) before are =
    rw (follow-next layer before rule) (follow-layer base top (suc layer) rule rules (numbered (suc (suc layer)) layers)
    (λ last. follow-layers top (top + length (rule ∷ rules)) (suc layer) layers last are.2) are.1.1)

-- all layers
follow-all : (base top layer : ℕ) (layers : List (List (ℕ × ℕ))) → AreLayers base top layers → all_follow may_follow (numbered layer layers) ≡ true
unfolding AreLayers IsLayer numbered all_follow
follow-all base top layer [] are = refl
follow-all base top layer ([] ∷ layers) are = absurd (omega (arith, are.0))
follow-all base top layer ((rule ∷ rules) ∷ layers) are =
    follow-layer base top layer rule rules (numbered (suc layer) layers)
    (λ last. follow-layers top (top + length (rule ∷ rules)) layer layers last are.2) are.1.1

-- the parts of a layer's rules are below it
layer-below : (base top here j : ℕ) (before : Option (ℕ × ℕ)) (rules : List (ℕ × ℕ)) → IsLayer base top before rules → top ≤ here → j < length rules
    → are_below here (get_or rules j (0, 0)) ≡ true
unfolding IsLayer
layer-below base top here j before [] all from some = absurd (omega arith)
layer-below base top here zero before (rule ∷ rules) all from some = let left = all.0.left in let right = all.0.right in grind (arith, nat_tests, left, right, from)
layer-below base top here (suc j) before (rule ∷ rules) all from some = layer-below base top here j (Some rule) rules all.1 from (omega arith)

-- and so are those of all layers
layers-below : (base top : ℕ) (layers : List (List (ℕ × ℕ))) (j : ℕ) → AreLayers base top layers → j < length (rules_of layers)
    → are_below (top + j) (get_or (rules_of layers) j (0, 0)) ≡ true
unfolding AreLayers rules_of
layers-below base top [] j are some = absurd (omega arith)
layers-below base top (rules ∷ layers) j are some = elim (cases_lt j (length rules)) [
  | inl here ↦ subst (λ rule. are_below (top + j) rule ≡ true) (sym (get_or-append rules (rules_of layers) (0, 0) j here))
      (layer-below base top (top + j) j None rules are.1 (omega arith) here)
  | inr later ↦
      let i = j - length rules in
      let place : length rules + i ≡ j = omega arith in
      let symbol : top + length rules + i ≡ top + j = omega arith in
      let is : get_or (rules ++ rules_of layers) j (0, 0) ≡ get_or (rules_of layers) i (0, 0) =
      ap (λ k. get_or (rules ++ rules_of layers) k (0, 0)) (sym place) ∙ get_or-append-add rules (rules_of layers) i (0, 0) in
      subst (λ rule. are_below (top + j) rule ≡ true) (sym is)
      (subst (λ symbol. are_below symbol (get_or (rules_of layers) i (0, 0)) ≡ true) symbol
      (layers-below top (top + length rules) layers i are.2 (omega (arith, some, length-append rules (rules_of layers)))))
]

-- layers over terminals are rules in order
pub layers-in_order : (terminals : ℕ) (layers : List (List (ℕ × ℕ))) → AreLayers 0 terminals layers → AreInOrder terminals (rules_of layers)
unfolding labelled
layers-in_order terminals layers are =
    let known = known-terminals terminals in
    record {
      below = λ j some. layers-below 0 terminals layers j are some;
      sorted = subst (λ n. all_follow may_follow (zip (drop n (depths terminals (rules_of layers))) (rules_of layers)) ≡ true) known.1
          (ap (all_follow may_follow) (labelled-layers (terminals_of terminals) layers known.0 known.1 are) ∙ follow-all 0 terminals 1 layers are);
    }

-- The layers of rules, as the table of depths has them.
use Rattle.std.proofs.Common.{◌≡◌, ℕ, zero, suc, ◌+◌, ◌<◌, ◌≤◌, Option, Some, None, List, [], ◌∷◌, ◌++◌, length, get_or, map, drop, replicate, refl, sym, ap, subst, ◌∙◌, inl, inr, arith, append_assoc, append-nil}
use Rattle.std.specs.List.{zip, range_with_len}
use Rattle.std.proofs.Math.ListN.{get_or-append}
use Rattle.std.proofs.Math.Seq.{get_or-append_seam}
use Rattle.std.proofs.lemmas.Bool.{cases_lt, lt-ltb}
use Rattle.std.proofs.lemmas.List.{length-append, length-replicate, drop_more}
use Rattle.std.proofs.lemmas.List.FromFn.{get_or-map-range_with_len, length-map-range_with_len}
use Rattle.list_laws.proofs.ZipLemmas.{zip-ended}
use Rattle.list_laws.specs.Grown.{table_of_rules}
use Rattle.list_laws.proofs.GrownLemmas.{length-table_of_rules, table_of_rules-rule, table_of_rules-keeps}
use Rattle.rule_store.specs.Expansion.{depth_above}
use Rattle.index_format.specs.LayerLists.{Follows, IsLayer, AreLayers, rules_of}

-- the depths of all symbols, where some are known
abbrev pub depths_over : List ℕ → List (ℕ × ℕ) → List ℕ
depths_over known rules = table_of_rules depth_above 0 known rules

-- the depth of a rule over known ones
abbrev pub depth_over : List ℕ → ℕ × ℕ → ℕ
depth_over known rule = depth_above (get_or known rule.0 0) (get_or known rule.1 0)

-- rules with their depths in front
unfoldable pub labelled : List ℕ → List (ℕ × ℕ) → List (ℕ × (ℕ × ℕ))
labelled known rules = zip (drop (length known) (depths_over known rules)) rules

-- the first rule, and the others
pub labelled-rule : (known : List ℕ) (rule : ℕ × ℕ) (rules : List (ℕ × ℕ))
    → labelled known (rule ∷ rules) ≡ (depth_over known rule, rule) ∷ labelled (known ++ depth_over known rule ∷ []) rules
unfolding labelled table_of_rules
labelled-rule known rule rules =
    let depth = depth_over known rule in
    let next = known ++ depth ∷ [] in
    let table : List ℕ = depths_over next rules in
    let long : length next ≡ length known + 1 = omega (arith, length-append known (depth ∷ [])) in
    let within : length known < length table = omega (arith, long, length-table_of_rules depth_above 0 next rules) in
    let first : get_or table (length known) 0 ≡ depth =
    table_of_rules-keeps depth_above 0 next rules (length known) (omega (arith, long)) ∙ get_or-append_seam known depth [] 0 in
    let split : drop (length known) table ≡ get_or table (length known) 0 ∷ drop (length known + 1) table = drop_more table (length known) 0 within in
    rw (split, first, long) refl

-- no rules
pub labelled-none : (known : List ℕ) → labelled known [] ≡ []
unfolding labelled
labelled-none known = zip-ended (drop (length known) (depths_over known [])) [] (inr refl)

-- symbols below `base` are in layers below `layer` and the one before it, those from `base` to `top` in the one before it, and those
-- after it in `layer`
pub record IsKnown (base top layer : ℕ) (known : List ℕ) : Type 0 where
  pub below : base ≤ top
  pub within : top ≤ length known
  pub low : (i : ℕ) → i < base → get_or known i 0 + 1 < layer
  pub middle : (i : ℕ) → base ≤ i → i < top → get_or known i 0 + 1 ≡ layer
  pub high : (i : ℕ) → top ≤ i → i < length known → get_or known i 0 ≡ layer

module _ {base top layer : ℕ} {known : List ℕ} (is : IsKnown base top layer known) where
  -- one more rule of the layer
  pub known-more : IsKnown base top layer (known ++ layer ∷ [])
  known-more =
      let long : length (known ++ layer ∷ []) ≡ length known + 1 = omega (arith, length-append known (layer ∷ [])) in
      record {
        below = is.below;
        within = omega (arith, is.within, long);
        low = λ i under. omega (arith, get_or-append known (layer ∷ []) 0 i (omega (arith, is.below, is.within)), is.low i under);
        middle = λ i from under. omega (arith, get_or-append known (layer ∷ []) 0 i (omega (arith, is.within)), is.middle i from under);
        high = λ i from under. elim (cases_lt i (length known)) [
          | inl old ↦ get_or-append known (layer ∷ []) 0 i old ∙ is.high i from old
          | inr new ↦
              let last : i ≡ length known = omega (arith, long) in
              ap (λ k. get_or (known ++ layer ∷ []) k 0) last ∙ get_or-append_seam known layer [] 0
        ];
      }

  -- the next layer begins
  pub known-turn : IsKnown top (length known) (suc layer) known
  known-turn = record {
    below = is.within;
    within = omega arith;
    low = λ i under. elim (cases_lt i base) [
      | inl low ↦ omega (arith, is.low i low)
      | inr middle ↦ omega (arith, is.middle i middle under)
    ];
    middle = λ i from under. omega (arith, is.high i from under);
    high = λ i from under. absurd (omega arith);
  }

  -- no known symbol is above the layer
  pub known-most : (i : ℕ) → i < length known → get_or known i 0 ≤ layer
  known-most i some = elim (cases_lt i base) [
    | inl low ↦ omega (arith, is.low i low)
    | inr from ↦ elim (cases_lt i top) [
      | inl middle ↦ omega (arith, is.middle i from middle)
      | inr high ↦ omega (arith, is.high i high some)
    ]
  ]

  -- a rule of the layer has its depth
  pub depth-follows : (before : Option (ℕ × ℕ)) (rule : ℕ × ℕ) → Follows base top before rule → depth_over known rule ≡ layer
  depth-follows before rule follows = elim (cases_lt rule.0 base) [
    | inl low ↦
        let floor : base ≤ rule.1 = rw (lt-ltb rule.0 base low) at follows.floor in
        omega (arith, is.low rule.0 low, is.middle rule.1 floor follows.right)
    | inr middle ↦ elim (cases_lt rule.1 base) [
      | inl low ↦ omega (arith, is.low rule.1 low, is.middle rule.0 middle follows.left)
      | inr high ↦ omega (arith, is.middle rule.1 high follows.right, is.middle rule.0 middle follows.left)
    ]
  ]

-- more rules of the layer
pub known-layer : {base top layer : ℕ} (known : List ℕ) (many : ℕ) → IsKnown base top layer known
    → IsKnown base top layer (known ++ replicate many layer)
known-layer {base} {top} {layer} known zero is = subst (λ known. IsKnown base top layer known) (sym (append-nil known)) is
known-layer {base} {top} {layer} known (suc many) is =
    subst (λ known. IsKnown base top layer known) (append_assoc known (layer ∷ []) (replicate many layer))
    (known-layer (known ++ layer ∷ []) many (known-more is))

-- a layer's rules and those after them
pub labelled-layer : {base top layer : ℕ} (known : List ℕ) (before : Option (ℕ × ℕ)) (rules more : List (ℕ × ℕ)) → IsKnown base top layer known
    → IsLayer base top before rules
    → labelled known (rules ++ more) ≡ map (λ rule. (layer, rule)) rules ++ labelled (known ++ replicate (length rules) layer) more
unfolding IsLayer
labelled-layer {layer = layer} known before [] more is all = ap (λ known. labelled known more) (sym (append-nil known))
labelled-layer {layer = layer} known before (rule ∷ rules) more is all =
    let depth = depth-follows is before rule all.0 in
    let others = labelled-layer (known ++ layer ∷ []) (Some rule) rules more (known-more is) all.1 in
    labelled-rule known rule (rules ++ more) ∙ rw (depth, others) (ap (λ known. (layer, rule) ∷ map (λ rule. (layer, rule)) rules ++ labelled known more)
    (append_assoc known (layer ∷ []) (replicate (length rules) layer)))

-- and their depths
pub depths-layer : {base top layer : ℕ} (known : List ℕ) (before : Option (ℕ × ℕ)) (rules more : List (ℕ × ℕ)) → IsKnown base top layer known
    → IsLayer base top before rules
    → depths_over known (rules ++ more) ≡ depths_over (known ++ replicate (length rules) layer) more
unfolding IsLayer
depths-layer {layer = layer} known before [] more is all = ap (λ known. depths_over known more) (sym (append-nil known))
depths-layer {layer = layer} known before (rule ∷ rules) more is all =
    let depth = depth-follows is before rule all.0 in
    let others = depths-layer (known ++ layer ∷ []) (Some rule) rules more (known-more is) all.1 in
    table_of_rules-rule depth_above 0 known rule (rules ++ more) ∙ ap (λ depth. depths_over (known ++ depth ∷ []) (rules ++ more)) depth
    ∙ others ∙ ap (λ known. depths_over known more) (append_assoc known (layer ∷ []) (replicate (length rules) layer))

-- the rules of layers, each with the number of its layer in front
unfoldable pub numbered : ℕ → List (List (ℕ × ℕ)) → List (ℕ × (ℕ × ℕ))
numbered layer [] = []
numbered layer (rules ∷ layers) = map (λ rule. (layer, rule)) rules ++ numbered (suc layer) layers

-- these numbers
unfoldable pub numbers_of : ℕ → List (List (ℕ × ℕ)) → List ℕ
numbers_of layer [] = []
numbers_of layer (rules ∷ layers) = replicate (length rules) layer ++ numbers_of (suc layer) layers

-- after a layer, the next one
pub known-next : {base top layer : ℕ} (known : List ℕ) (many : ℕ) → IsKnown base top layer known → length known ≡ top
    → IsKnown top (top + many) (suc layer) (known ++ replicate many layer) × (length (known ++ replicate many layer) ≡ top + many)
known-next {base} {top} {layer} known many is all =
    let long : length (known ++ replicate many layer) ≡ top + many =
    omega (arith, length-append known (replicate many layer), length-replicate many layer) in
    (subst (λ n. IsKnown top n (suc layer) (known ++ replicate many layer)) long (known-turn (known-layer known many is)), long)

-- all layers
pub labelled-layers : {base top layer : ℕ} (known : List ℕ) (layers : List (List (ℕ × ℕ))) → IsKnown base top layer known → length known ≡ top
    → AreLayers base top layers → labelled known (rules_of layers) ≡ numbered layer layers
unfolding AreLayers rules_of numbered
labelled-layers known [] is all are = labelled-none known
labelled-layers {base = base} {top = top} {layer = layer} known (rules ∷ layers) is all are =
    let next = known-next known (length rules) is all in
    labelled-layer known None rules (rules_of layers) is are.1
    ∙ ap (λ others. map (λ rule. (layer, rule)) rules ++ others)
    (labelled-layers {base = top} (known ++ replicate (length rules) layer) layers next.0 next.1 are.2)

-- and their depths
pub depths-layers : {base top layer : ℕ} (known : List ℕ) (layers : List (List (ℕ × ℕ))) → IsKnown base top layer known → length known ≡ top
    → AreLayers base top layers → depths_over known (rules_of layers) ≡ known ++ numbers_of layer layers
unfolding AreLayers rules_of numbers_of table_of_rules
depths-layers known [] is all are = sym (append-nil known)
depths-layers {base = base} {top = top} {layer = layer} known (rules ∷ layers) is all are =
    let next = known-next known (length rules) is all in
    depths-layer known None rules (rules_of layers) is are.1
    ∙ depths-layers {base = top} (known ++ replicate (length rules) layer) layers next.0 next.1 are.2
    ∙ append_assoc known (replicate (length rules) layer) (numbers_of (suc layer) layers)

-- terminals, each in layer 0
abbrev pub terminals_of : ℕ → List ℕ
terminals_of terminals = map (λ terminal. 0) (range_with_len 0 terminals)

-- over terminals alone layer 1 begins
pub known-terminals : (terminals : ℕ) → IsKnown 0 terminals 1 (terminals_of terminals) × (length (terminals_of terminals) ≡ terminals)
known-terminals terminals =
    let long : length (terminals_of terminals) ≡ terminals = length-map-range_with_len {X = ℕ} (λ terminal. 0) 0 terminals in (
      record {
        below = omega arith;
        within = omega (arith, long);
        low = λ i under. absurd (omega arith);
        middle = λ i from under. omega (arith, get_or-map-range_with_len {X = ℕ} (λ terminal. 0) 0 terminals i i 0 under (omega arith));
        high = λ i from under. absurd (omega (arith, long));
      },
      long,
    )

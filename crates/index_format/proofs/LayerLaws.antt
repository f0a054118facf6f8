-- Rules by layers: what was put is read, and what is read was put.
use Rattle.std.proofs.Common.{◌≡◌, ℕ, suc, ◌+◌, ◌-◌, ◌<◌, ◌≤◌, ◌^◌, false, Bool, Option, Some, None, Ok, List, [], ◌∷◌, ◌++◌, length, refl, sym, ap, subst, ◌∙◌, arith, append_assoc, append-nil}
use Rattle.std.proofs.Math.ListN.{get_or-append}
use Rattle.std.proofs.lemmas.List.{length-append}
use Rattle.list_laws.proofs.FindLemmas.{find_in_range-all}
use Rattle.bit_stream.specs.Numbers.{number_bits}
use Rattle.rule_store.specs.View.{RulesView}
use Rattle.rule_store.specs.Entry.{entry_of}
use Rattle.rule_store.specs.Expansion.{values_of}
use Rattle.rule_store.specs.Flaws.{is_rule_flawed, rule_flaw}
use Rattle.rule_store.proofs.TableLemmas.{values_of-with_rule}
use Rattle.track_types.specs.declared.flaw.Section.TheVariants.{Layers, Rules}
use Rattle.index_format.specs.Fields.{flaw_at, items_at}
use Rattle.index_format.specs.IsOutline.{AreInOrder}
use Rattle.index_format.specs.OutlineLists.{told_bits}
use Rattle.index_format.specs.OutlineRules.{is_flawed_under, layer_rule_in, layers_in, least_left, least_right, rule_before, rule_numbers, rules_bits, rules_in, with_rules}
use Rattle.index_format.specs.LayerLists.{Follows, IsLayer, AreLayers, rules_of, layers_bits, one_layer_bits}
use Rattle.index_format.proofs.ElementLemmas.{told_at-number_bits}
use Rattle.index_format.proofs.LayerLemmas.{flawed_under-both, layer_rule_in-ok, layers_in-ends, layers_in-next, rule_before-more, rule_before-none}
use Rattle.index_format.proofs.LayerBits.{rules_bits-layers}
use Rattle.index_format.proofs.SplitLemmas.{in_order-layers}

-- no more layers than rules
layers-few : (base top : ℕ) (layers : List (List (ℕ × ℕ))) → AreLayers base top layers → length layers ≤ length (rules_of layers)
unfolding AreLayers rules_of
layers-few base top [] are = omega arith
layers-few base top (rules ∷ layers) are =
    omega (arith, are.0, length-append rules (rules_of layers), layers-few top (top + length rules) layers are.2)

-- the bits of a layer before others
pub split-layer : (base : ℕ) (rules : List (ℕ × ℕ)) (others rest : List Bool) → (one_layer_bits base rules ++ others) ++ rest
    ≡ number_bits (length rules - 1) ++ (told_bits (rule_numbers base None rules) ++ (others ++ rest))
unfolding one_layer_bits
split-layer base rules others rest =
    append_assoc (one_layer_bits base rules) others rest
    ∙ append_assoc (number_bits (length rules - 1)) (told_bits (rule_numbers base None rules)) (others ++ rest)

-- no rule is flawed where there is no first one
rule-sound-at : (view : RulesView) (j : ℕ) → rule_flaw view ≡ None → j < length view.rules → is_rule_flawed view j ≡ false
unfolding rule_flaw
rule-sound-at view j none within = find_in_range-all (is_rule_flawed view) 0 (length view.rules) none j (omega arith) (omega arith)

module _ (view : RulesView) where
  -- rules that follow change no symbol before them
  values-longer : (more rules : List (ℕ × ℕ)) (symbol : ℕ) → symbol < length view.alphabet + length rules
      → values_of (with_rules view (rules ++ more)) symbol ≡ values_of (with_rules view rules) symbol
  values-longer [] rules symbol within = ap (λ rules. values_of (with_rules view rules) symbol) (append-nil rules)
  values-longer (rule ∷ more) rules symbol within =
      let longer = rules ++ rule ∷ [] in
      ap (λ rules. values_of (with_rules view rules) symbol) (sym (append_assoc rules (rule ∷ []) more))
      ∙ values-longer more longer symbol (omega (arith, within, length-append rules (rule ∷ [])))
      ∙ values_of-with_rule (with_rules view rules) rule symbol within

  -- and so no judgment
  pub flawed-longer : (more rules : List (ℕ × ℕ)) (j : ℕ) → j < length rules
      → is_rule_flawed (with_rules view (rules ++ more)) j ≡ is_rule_flawed (with_rules view rules) j
  unfolding is_rule_flawed entry_of
  flawed-longer more rules j within =
      rw (get_or-append rules more (0, 0) j within, values-longer more rules (length view.alphabet + j) (omega (arith, within))) refl

  -- no rule from one on to another is flawed
  abbrev pub AreSound : List (ℕ × ℕ) → ℕ → ℕ → Type 0
  AreSound rules from to = (j : ℕ) → from ≤ j → j < to → is_rule_flawed (with_rules view rules) j ≡ false

  -- a rule after others, and more after it
  pub sound-here : (seen more : List (ℕ × ℕ)) (rule : ℕ × ℕ) → is_rule_flawed (with_rules view (seen ++ rule ∷ more)) (length seen)
      ≡ is_rule_flawed (with_rules view (seen ++ rule ∷ [])) (length seen)
  sound-here seen more rule =
      ap (λ rules. is_rule_flawed (with_rules view rules) (length seen)) (sym (append_assoc seen (rule ∷ []) more))
      ∙ flawed-longer more (seen ++ rule ∷ []) (length seen) (omega (arith, length-append seen (rule ∷ [])))

  module _ (base top start : ℕ) where
    -- a rule that was put is read
    rule-again : (before : Option (ℕ × ℕ)) (seen : List (ℕ × ℕ)) (rule : ℕ × ℕ) (rest : List Bool) → Follows base top before rule → top ≤ 2 ^ 26
        → rule_before start seen ≡ before → is_rule_flawed (with_rules view (seen ++ rule ∷ [])) (length seen) ≡ false
        → layer_rule_in view base top start seen
        (number_bits (rule.0 - least_left before) ++ (number_bits (rule.1 - least_right base before rule.0) ++ rest)) ≡ Ok (rule, rest)
    rule-again before seen rule rest follows few last sound =
        let flaw = flaw_at Rules 0 (length seen) in
        let left = rule.0 - least_left before in
        let right = rule.1 - least_right base before rule.0 in
        let middle = number_bits right ++ rest in
        let left_is : least_left before + left ≡ rule.0 = omega (arith, follows.left_rises) in
        let right_is : least_right base before rule.0 + right ≡ rule.1 = omega (arith, follows.right_rises) in
        let same : (least_left before + left, least_right base before rule.0 + right) ≡ rule = rw (left_is, right_is) refl in
        let judged : is_flawed_under view top seen rule ≡ false = flawed_under-both view top rule.0 rule.1 seen follows.left follows.right ∙ sound in
        layer_rule_in-ok view base top start (length seen) seen (number_bits left ++ middle) before refl last
        left middle (told_at-number_bits flaw left middle (omega (arith, follows.left, few)))
        right (least_left before) (least_right base before rule.0) rest (told_at-number_bits flaw right rest (omega (arith, follows.right, few)))
        refl (ap (least_right base before) (sym left_is)) (ap (is_flawed_under view top seen) same ∙ judged)
        ∙ ap (λ rule. Ok (rule, rest)) same

    -- rules of a layer that were put are read
    layer-again : (layer : List (ℕ × ℕ)) (before : Option (ℕ × ℕ)) (seen more : List (ℕ × ℕ)) (rest : List Bool) → IsLayer base top before layer
        → top ≤ 2 ^ 26 → start ≤ length seen → rule_before start seen ≡ before
        → AreSound (seen ++ (layer ++ more)) (length seen) (length seen + length layer)
        → items_at (layer_rule_in view base top start) (length layer) seen (told_bits (rule_numbers base before layer) ++ rest) ≡ Ok (seen ++ layer, rest)
    unfolding IsLayer items_at told_bits rule_numbers
    layer-again [] before seen more rest all few begun last sound = ap (λ seen. Ok (seen, rest)) (sym (append-nil seen))
    layer-again (rule ∷ layer) before seen more rest all few begun last sound =
        let left = number_bits (rule.0 - least_left before) in
        let right = number_bits (rule.1 - least_right base before rule.0) in
        let behind = told_bits (rule_numbers base (Some rule) layer) ++ rest in
        let split : (left ++ (right ++ told_bits (rule_numbers base (Some rule) layer))) ++ rest ≡ left ++ (right ++ behind) =
        append_assoc left (right ++ told_bits (rule_numbers base (Some rule) layer)) rest
        ∙ ap (λ bits. left ++ bits) (append_assoc right (told_bits (rule_numbers base (Some rule) layer)) rest) in
        let longer = seen ++ rule ∷ [] in
        let long : length longer ≡ length seen + 1 = omega (arith, length-append seen (rule ∷ [])) in
        let one = rule-again before seen rule behind all.0 few last (sym (sound-here seen (layer ++ more) rule) ∙ sound (length seen) (omega arith) (omega arith)) in
        let others = layer-again layer (Some rule) longer more rest all.1 few (omega (arith, begun, long)) (rule_before-more start seen rule begun)
        (λ j from to. ap (λ rules. is_rule_flawed (with_rules view rules) j) (append_assoc seen (rule ∷ []) (layer ++ more))
        ∙ sound j (omega (arith, from, long)) (omega (arith, to, long))) in
        rw (split, one, others) (ap (λ seen. Ok (seen, rest)) (append_assoc seen (rule ∷ []) layer))

  -- layers that were put are read
  pub layers-again : (layers : List (List (ℕ × ℕ))) (count layer base left : ℕ) (seen : List (ℕ × ℕ)) (rest : List Bool)
      → AreLayers base (length view.alphabet + length seen) layers → length seen + length (rules_of layers) ≡ count → length layers ≤ left
      → length view.alphabet + count ≤ 2 ^ 26 → AreSound (seen ++ rules_of layers) (length seen) count
      → layers_in left view count layer base seen (layers_bits base (length view.alphabet + length seen) layers ++ rest) ≡ Ok (seen ++ rules_of layers, rest)
  unfolding AreLayers rules_of layers_bits
  layers-again [] count layer base left seen rest are all enough few sound =
      let long : length seen ≡ count = omega (arith, all) in
      layers_in-ends view count layer base left seen rest long ∙ ap (λ seen. Ok (seen, rest)) (sym (append-nil seen))
  layers-again (rules ∷ layers) count layer base left seen rest are all enough few sound =
      let top = length view.alphabet + length seen in
      let others = layers_bits top (top + length rules) layers in
      let told = told_bits (rule_numbers base None rules) in
      let longer = seen ++ rules in
      let long : length longer ≡ length seen + length rules = length-append seen rules in
      let behind = length-append rules (rules_of layers) in
      let next : top + length rules ≡ length view.alphabet + length longer = omega (arith, long) in
      let bits = told ++ (others ++ rest) in
      let split : layers_bits base top (rules ∷ layers) ++ rest ≡ number_bits (length rules - 1) ++ bits = split-layer base rules others rest in
      let some : 0 < length rules = are.0 in
      let here : length seen < count = omega (arith, all, some, behind) in
      let first = told_at-number_bits (flaw_at Layers 0 layer) (length rules - 1) bits (omega (arith, few, all, behind)) in
      let rules_told = layer-again base top (length seen) rules None seen (rules_of layers) (others ++ rest) are.1 (omega (arith, few, all)) (omega arith)
      (rule_before-none seen) (λ j from to. sound j from (omega (arith, to, all, behind))) in
      let step = layers_in-next view count layer base left seen (number_bits (length rules - 1) ++ bits)
      (layers_in left view count layer base seen (number_bits (length rules - 1) ++ bits)) (omega (arith, enough)) here refl
      (length rules - 1) bits first (length rules) top (omega (arith, all, some, behind)) (omega (arith, some)) refl longer (others ++ rest) rules_told in
      let again = layers-again layers count (suc layer) top (left - 1) longer rest (subst (λ n. AreLayers top n layers) next are.2)
      (omega (arith, all, long, behind)) (omega (arith, enough)) few
      (λ j from to. ap (λ rules. is_rule_flawed (with_rules view rules) j) (append_assoc seen rules (rules_of layers))
      ∙ sound j (omega (arith, from, long)) to) in
      ap (layers_in left view count layer base seen) split ∙ sym step
      ∙ ap (λ n. layers_in (left - 1) view count (suc layer) top longer (layers_bits top n layers ++ rest)) next
      ∙ again ∙ ap (λ rules. Ok (rules, rest)) (append_assoc seen rules (rules_of layers))

  -- rules in order that were put are read
  pub rules-again : (rules : List (ℕ × ℕ)) (rest : List Bool) → AreInOrder (length view.alphabet) rules → rule_flaw (with_rules view rules) ≡ None
      → length view.alphabet + length rules ≤ 2 ^ 26
      → rules_in view (length rules) (rules_bits (length view.alphabet) rules ++ rest) ≡ Ok (rules, rest)
  unfolding rules_in
  rules-again rules rest order sound few =
      let it = in_order-layers (length view.alphabet) rules order in
      let layers = it.0 in
      let are : AreLayers 0 (length view.alphabet) layers = it.2 in
      let top : length view.alphabet ≡ length view.alphabet + 0 = omega arith in
      let same : rules_of layers ≡ rules = sym it.1 in
      let long : length (rules_of layers) ≡ length rules = ap length same in
      let bits : rules_bits (length view.alphabet) rules ≡ layers_bits 0 (length view.alphabet + 0) layers =
      ap (rules_bits (length view.alphabet)) it.1 ∙ rules_bits-layers (length view.alphabet) layers are ∙ ap (λ n. layers_bits 0 n layers) top in
      ap (λ bits. layers_in (length rules) view (length rules) 0 0 [] (bits ++ rest)) bits
      ∙ layers-again layers (length rules) 0 0 (length rules) [] rest (subst (λ n. AreLayers 0 n layers) top are)
      (omega (arith, long)) (omega (arith, layers-few 0 (length view.alphabet) layers are, long)) few
      (λ j from to. ap (λ rules. is_rule_flawed (with_rules view rules) j) same ∙ rule-sound-at (with_rules view rules) j sound to)
      ∙ ap (λ rules. Ok (rules, rest)) same

-- Settled rules: they stand in order, each symbol stands for what it stood for, and rules in order stay as they are.
use Rattle.std.proofs.Common.{◌≡◌, ℕ, zero, suc, ◌+◌, ◌-◌, ◌<◌, ◌≤◌, false, List, Ordering, drop, length, get_or, map, refl, ap, sym, ◌∙◌, arith, inl, inr}
use Rattle.std.specs.List.{range_with_len}
use Rattle.std.specs.Ordering.{is_lt, nat_cmp, ordering_reverse, ordering_then}
use Rattle.std.specs.declared.cmp.Ordering.TheVariants.{Less, Equal, Greater}
use Rattle.std.proofs.lemmas.Bool.{cases_lt, cases_order}
use Rattle.std.proofs.lemmas.Cmp.{nat_cmp_total, tied_itself}
use Rattle.std.proofs.lemmas.List.{get_or-drop, get_or-map, get_or_default, length-drop, length-map, same_lists}
use Rattle.std.proofs.lemmas.List.Elements.{Contains-get_or}
use Rattle.std.proofs.lemmas.List.Sorted.{Contains-permutation, IsPermutation-sym}
use Rattle.std.proofs.lemmas.Map.Keys.{Less-from_sorted}
use Rattle.list_laws.specs.Grown.{table_of_rules}
use Rattle.list_laws.proofs.KeyedLemmas.{member_of_range}
use Rattle.list_laws.proofs.RuleLemmas.{table_of_rules-at_terminal}
use Rattle.rule_store.specs.Expansion.{depth_above}
use Rattle.rule_store.specs.Flaws.{rule_parts}
use Rattle.rule_order.specs.Layers.{AreBelow, layer_of, parts_of, symbol_count}
use Rattle.rule_order.specs.Order.{IsSettled, key_order, new_symbol, rule_key, settled_rules, symbol_order, symbols_in_order}
use Rattle.rule_order.proofs.LayerLemmas.{layers-fall, parts-below, table-rule}
use Rattle.rule_order.proofs.OrderLemmas.{by_parts, less_from_nat_cmp, nat_cmp-less, nat_cmp-same, order_to-total, symbol_order-by_parts, symbol_order-layers, symbol_order-terminal}
use Rattle.rule_order.proofs.RankLemmas.{length-symbols_in_order, new_symbol-place, new_symbol-same, place-new_symbol, symbol_order-new, symbols_in_order-permutation, symbols_in_order-rise}

not_behind : (a b c d : Ordering) → ordering_then a (ordering_then b (ordering_then c d)) ≡ Less →
    is_lt (ordering_then (ordering_reverse a) (ordering_then (ordering_reverse b) (ordering_reverse c))) ≡ false
not_behind Less b c d less = refl
not_behind Equal Less c d less = refl
not_behind Equal Equal Less d less = refl
not_behind Equal Equal Equal d less = refl
not_behind Equal Equal Greater d less = absurd (cc)
not_behind Equal Greater c d less = absurd (cc)
not_behind Greater b c d less = absurd (cc)

ahead : (a b c : Ordering) →
    is_lt (ordering_then (ordering_reverse a) (ordering_then (ordering_reverse b) (ordering_reverse c))) ≡ false →
    ordering_then a (ordering_then b (ordering_then c Less)) ≡ Less
ahead Less b c not_before = refl
ahead Equal Less c not_before = refl
ahead Equal Equal Less not_before = refl
ahead Equal Equal Equal not_before = refl
ahead Equal Equal Greater not_before = absurd (cc)
ahead Equal Greater c not_before = absurd (cc)
ahead Greater b c not_before = absurd (cc)

module _ (alphabet : ℕ) (rules : List (ℕ × ℕ)) (below : AreBelow alphabet rules) where
  -- terminals keep their numbers
  pub new_symbol-terminal : (symbol : ℕ) → symbol < alphabet → new_symbol alphabet rules symbol ≡ symbol
  new_symbol-terminal symbol terminal =
      new_symbol-same alphabet rules symbol (omega arith) (λ other within.
      (order_to-total alphabet rules (length rules)).antisymm other symbol
      ∙ ap ordering_reverse (symbol_order-terminal alphabet rules below symbol other terminal within)
      ∙ sym (nat_cmp_total.antisymm other symbol))

  -- and rules stay rules
  pub new_symbol-rule : (symbol : ℕ) → alphabet ≤ symbol → symbol < symbol_count alphabet rules →
      alphabet ≤ new_symbol alphabet rules symbol
  new_symbol-rule symbol rule within = elim (cases_lt 0 alphabet) [
    | inl some ↦
        let last : ℕ = alphabet - 1 in
        let before = symbol_order-terminal alphabet rules below last symbol (omega arith) within in
        let less = less_from_nat_cmp (new_symbol alphabet rules last) (new_symbol alphabet rules symbol)
        (sym (symbol_order-new alphabet rules last symbol (omega arith) within) ∙ before ∙ nat_cmp-less last symbol (omega arith)) in
        omega (arith, less, new_symbol-terminal last (omega arith))
    | inr none ↦ omega arith
  ]

  -- a symbol of a lower layer has the lesser number
  pub new_symbol-layers : (a b : ℕ) → a < symbol_count alphabet rules → b < symbol_count alphabet rules →
      layer_of alphabet rules a < layer_of alphabet rules b → new_symbol alphabet rules a < new_symbol alphabet rules b
  new_symbol-layers a b within also lower =
      less_from_nat_cmp _ _ (sym (symbol_order-new alphabet rules a b within also)
      ∙ symbol_order-layers alphabet rules below a b within also lower)

  pub length-settled_rules : length (settled_rules alphabet rules) ≡ length rules
  unfolding settled_rules
  length-settled_rules =
      length-map _ _ ∙ length-drop alphabet (symbols_in_order alphabet rules)
      ∙ omega (arith, length-symbols_in_order alphabet rules)

  -- a rule has its parts' new numbers
  pub settled_rules-parts : (symbol : ℕ) → alphabet ≤ symbol → symbol < symbol_count alphabet rules →
      parts_of alphabet (settled_rules alphabet rules) (new_symbol alphabet rules symbol)
      ≡ (new_symbol alphabet rules (parts_of alphabet rules symbol).0, new_symbol alphabet rules (parts_of alphabet rules symbol).1)
  unfolding settled_rules
  settled_rules-parts symbol rule within =
      let renumbered : ℕ → ℕ × ℕ = λ s. (new_symbol alphabet rules (parts_of alphabet rules s).0, new_symbol alphabet rules (parts_of alphabet rules s).1) in
      let place : ℕ = new_symbol alphabet rules symbol - alphabet in
      let at = place-new_symbol alphabet rules symbol 0 within in
      let high = new_symbol-rule symbol rule within in
      let back : alphabet + place ≡ new_symbol alphabet rules symbol = omega arith in
      let inside : place < length (drop alphabet (symbols_in_order alphabet rules)) =
      omega (arith, length-drop alphabet (symbols_in_order alphabet rules), length-symbols_in_order alphabet rules, at.0) in
      get_or-map renumbered (drop alphabet (symbols_in_order alphabet rules)) place 0 (0, 0) inside
      ∙ ap renumbered (get_or-drop alphabet (symbols_in_order alphabet rules) place 0
      ∙ ap (λ k. get_or (symbols_in_order alphabet rules) k 0) back ∙ at.1)

  -- the old symbol of each place
  pub record IsOldSymbol (place symbol : ℕ) : Type 0 where
    pub within : symbol < symbol_count alphabet rules
    pub is : new_symbol alphabet rules symbol ≡ place

  pub old_symbol : (place : ℕ) → place < symbol_count alphabet rules →
      IsOldSymbol place (get_or (symbols_in_order alphabet rules) place 0)
  old_symbol place short =
      let member = Contains-permutation _ _ _ (IsPermutation-sym _ _ (symbols_in_order-permutation alphabet rules))
      (Contains-get_or (symbols_in_order alphabet rules) place 0 (omega (arith, length-symbols_in_order alphabet rules))) in
      record {
        within = omega (arith, (member_of_range 0 (symbol_count alphabet rules) _ member).1);
        is = new_symbol-place alphabet rules place 0 short;
      }

  pub old_symbol-rule : (place symbol : ℕ) → IsOldSymbol place symbol → alphabet ≤ place → alphabet ≤ symbol
  old_symbol-rule place symbol old rule = elim (cases_lt symbol alphabet) [
    | inl terminal ↦ absurd (omega (arith, old.is, new_symbol-terminal symbol terminal))
    | inr is ↦ is
  ]

  pub settled_rules-at : (j symbol : ℕ) → IsOldSymbol (alphabet + j) symbol →
      rule_parts (settled_rules alphabet rules) j
      ≡ (new_symbol alphabet rules (parts_of alphabet rules symbol).0, new_symbol alphabet rules (parts_of alphabet rules symbol).1)
  settled_rules-at j symbol old =
      let rule = old_symbol-rule (alphabet + j) symbol old (omega arith) in
      let place : j ≡ new_symbol alphabet rules symbol - alphabet = omega (arith, old.is) in
      ap (rule_parts (settled_rules alphabet rules)) place ∙ settled_rules-parts symbol rule old.within

  -- the parts of settled rules are below their own symbols
  pub settled_rules-below : AreBelow alphabet (settled_rules alphabet rules)
  settled_rules-below = λ j within.
      let symbol : ℕ = get_or (symbols_in_order alphabet rules) (alphabet + j) 0 in
      let old = old_symbol (alphabet + j) (omega (arith, length-settled_rules)) in
      let rule = old_symbol-rule (alphabet + j) symbol old (omega arith) in
      let is = settled_rules-at j symbol old in
      let fall = layers-fall alphabet rules below symbol rule old.within in
      let parts = parts-below alphabet rules below symbol rule old.within in
      let left = new_symbol-layers (parts_of alphabet rules symbol).0 symbol (omega (arith, parts.0, old.within)) old.within fall.0 in
      let right = new_symbol-layers (parts_of alphabet rules symbol).1 symbol (omega (arith, parts.1, old.within)) old.within fall.1 in
      rw is (omega (arith, left, old.is), omega (arith, right, old.is))

  -- what a table has for a symbol, it has for its new number
  module _ {A : Type 0} (join : A → A → A) (none : A) (f : ℕ → A) where
    new_to : (bound symbol : ℕ) → symbol < bound → symbol < symbol_count alphabet rules →
        get_or (table_of_rules join none (map f (range_with_len 0 alphabet)) (settled_rules alphabet rules)) (new_symbol alphabet rules symbol) none
        ≡ get_or (table_of_rules join none (map f (range_with_len 0 alphabet)) rules) symbol none
    new_to zero symbol under within = absurd (omega arith)
    new_to (suc bound) symbol under within = elim (cases_lt symbol alphabet) [
      | inl terminal ↦
          ap (λ k. get_or (table_of_rules join none (map f (range_with_len 0 alphabet)) (settled_rules alphabet rules)) k none)
          (new_symbol-terminal symbol terminal)
          ∙ table_of_rules-at_terminal join none f alphabet (settled_rules alphabet rules) symbol terminal
          ∙ sym (table_of_rules-at_terminal join none f alphabet rules symbol terminal)
      | inr rule ↦
          let settled : List (ℕ × ℕ) = settled_rules alphabet rules in
          let parts = parts-below alphabet rules below symbol rule within in
          let left = new_to bound (parts_of alphabet rules symbol).0 (omega (arith, parts.0)) (omega (arith, parts.0)) in
          let right = new_to bound (parts_of alphabet rules symbol).1 (omega (arith, parts.1)) (omega (arith, parts.1)) in
          let place = place-new_symbol alphabet rules symbol 0 within in
          let now = table-rule alphabet settled settled_rules-below join none f (new_symbol alphabet rules symbol)
          (new_symbol-rule symbol rule within) (omega (arith, place.0, length-settled_rules)) in
          let before = table-rule alphabet rules below join none f symbol rule within in
          rw (settled_rules-parts symbol rule within, left, right) at now ∙ sym before
    ]

    pub table-new_symbol : (symbol : ℕ) → symbol < symbol_count alphabet rules →
        get_or (table_of_rules join none (map f (range_with_len 0 alphabet)) (settled_rules alphabet rules)) (new_symbol alphabet rules symbol) none
        ≡ get_or (table_of_rules join none (map f (range_with_len 0 alphabet)) rules) symbol none
    table-new_symbol symbol within = new_to (suc symbol) symbol (omega arith) within

  -- layers stay
  pub layer_of-new_symbol : (symbol : ℕ) → symbol < symbol_count alphabet rules →
      layer_of alphabet (settled_rules alphabet rules) (new_symbol alphabet rules symbol) ≡ layer_of alphabet rules symbol
  unfolding layer_of
  layer_of-new_symbol symbol within = table-new_symbol depth_above 0 (λ terminal. 0) symbol within

  -- the layer and the parts of a settled rule, by its old symbol
  settled-key : (j symbol : ℕ) → IsOldSymbol (alphabet + j) symbol →
      rule_key alphabet (settled_rules alphabet rules) j
      ≡ (layer_of alphabet rules symbol, (new_symbol alphabet rules (parts_of alphabet rules symbol).0, new_symbol alphabet rules (parts_of alphabet rules symbol).1))
  settled-key j symbol old =
      let level : layer_of alphabet (settled_rules alphabet rules) (alphabet + j) ≡ layer_of alphabet rules symbol =
      ap (layer_of alphabet (settled_rules alphabet rules)) (sym old.is) ∙ layer_of-new_symbol symbol old.within in
      rw (level, settled_rules-at j symbol old) refl

  -- what is settled stands in order
  pub settled_rules-settled : IsSettled alphabet (settled_rules alphabet rules)
  settled_rules-settled = record {
    below = settled_rules-below;
    sorted = λ i j before within.
        let order = symbol_order alphabet rules in
        let new = new_symbol alphabet rules in
        let s : ℕ = get_or (symbols_in_order alphabet rules) (alphabet + i) 0 in
        let t : ℕ = get_or (symbols_in_order alphabet rules) (alphabet + j) 0 in
        let many = length-settled_rules in
        let first = old_symbol (alphabet + i) (omega (arith, many)) in
        let second = old_symbol (alphabet + j) (omega (arith, many)) in
        let rule = old_symbol-rule (alphabet + i) s first (omega arith) in
        let rule' = old_symbol-rule (alphabet + j) t second (omega arith) in
        let parts = parts-below alphabet rules below s rule first.within in
        let parts' = parts-below alphabet rules below t rule' second.within in
        let less : by_parts alphabet rules order s t ≡ Less =
        sym (symbol_order-by_parts alphabet rules below s t first.within second.within)
        ∙ Less-from_sorted order (symbols_in_order alphabet rules) (alphabet + i) (alphabet + j) 0
        (symbols_in_order-rise alphabet rules) (omega arith) (omega (arith, many, length-symbols_in_order alphabet rules)) in
        let lefts = symbol_order-new alphabet rules (parts_of alphabet rules s).0 (parts_of alphabet rules t).0
        (omega (arith, parts.0, first.within)) (omega (arith, parts'.0, second.within)) in
        let rights = symbol_order-new alphabet rules (parts_of alphabet rules s).1 (parts_of alphabet rules t).1
        (omega (arith, parts.1, first.within)) (omega (arith, parts'.1, second.within)) in
        let key : ℕ → ℕ × (ℕ × ℕ) = λ symbol. (layer_of alphabet rules symbol, (new (parts_of alphabet rules symbol).0, new (parts_of alphabet rules symbol).1)) in
        let not_before : is_lt (key_order (key t) (key s)) ≡ false =
        rw (
          nat_cmp_total.antisymm (layer_of alphabet rules t) (layer_of alphabet rules s),
          nat_cmp_total.antisymm (new (parts_of alphabet rules t).0) (new (parts_of alphabet rules s).0),
          nat_cmp_total.antisymm (new (parts_of alphabet rules t).1) (new (parts_of alphabet rules s).1),
        ) (not_behind (nat_cmp (layer_of alphabet rules s) (layer_of alphabet rules t))
        (nat_cmp (new (parts_of alphabet rules s).0) (new (parts_of alphabet rules t).0))
        (nat_cmp (new (parts_of alphabet rules s).1) (new (parts_of alphabet rules t).1)) (nat_cmp s t)
        (rw (lefts, rights) at less)) in
        ap (λ k. is_lt (key_order k (rule_key alphabet (settled_rules alphabet rules) i))) (settled-key j t second)
        ∙ ap (λ k. is_lt (key_order (key t) k)) (settled-key i s first) ∙ not_before;
  }

-- rules in order keep their places
module _ (alphabet : ℕ) (rules : List (ℕ × ℕ)) (settled : IsSettled alphabet rules) where
  order_from : (symbol : ℕ) → ((a b : ℕ) → a < b → b < symbol → symbol_order alphabet rules a b ≡ Less) → (a b : ℕ) → a < symbol → b < symbol →
      symbol_order alphabet rules a b ≡ nat_cmp a b
  order_from symbol rise a b within also =
      let total = order_to-total alphabet rules (length rules) in
      elim (cases_order a b) [
        | inl same ↦ ap (symbol_order alphabet rules a) (sym same) ∙ tied_itself total a ∙ sym (nat_cmp-same a b same)
        | inr differ ↦ elim differ [
          | inl before ↦ rise a b before also ∙ sym (nat_cmp-less a b before)
          | inr after ↦ total.antisymm a b ∙ ap ordering_reverse (rise b a after within ∙ sym (nat_cmp-less b a after)) ∙ sym (nat_cmp_total.antisymm a b)
        ]
      ]

  -- of two rules the earlier comes first, where this holds of their parts
  rules_rise : (a b : ℕ) → alphabet ≤ a → a < b → b < symbol_count alphabet rules →
      ((c d : ℕ) → c < d → d < b → symbol_order alphabet rules c d ≡ Less) → symbol_order alphabet rules a b ≡ Less
  rules_rise a b rule before within rise =
      let parts = parts-below alphabet rules settled.below a rule (omega arith) in
      let parts' = parts-below alphabet rules settled.below b (omega arith) within in
      let here : alphabet + (a - alphabet) ≡ a = omega arith in
      let here' : alphabet + (b - alphabet) ≡ b = omega arith in
      let not_before : is_lt (key_order (layer_of alphabet rules b, parts_of alphabet rules b) (layer_of alphabet rules a, parts_of alphabet rules a)) ≡ false =
      rw (here, here') at (settled.sorted (a - alphabet) (b - alphabet) (omega arith) (omega arith)) in
      let lefts = order_from b rise (parts_of alphabet rules a).0 (parts_of alphabet rules b).0 (omega (arith, parts.0)) (omega (arith, parts'.0)) in
      let rights = order_from b rise (parts_of alphabet rules a).1 (parts_of alphabet rules b).1 (omega (arith, parts.1)) (omega (arith, parts'.1)) in
      symbol_order-by_parts alphabet rules settled.below a b (omega arith) within
      ∙ rw (lefts, rights, nat_cmp-less a b before)
      (ahead (nat_cmp (layer_of alphabet rules a) (layer_of alphabet rules b))
      (nat_cmp (parts_of alphabet rules a).0 (parts_of alphabet rules b).0)
      (nat_cmp (parts_of alphabet rules a).1 (parts_of alphabet rules b).1)
      (rw (
        nat_cmp_total.antisymm (layer_of alphabet rules b) (layer_of alphabet rules a),
        nat_cmp_total.antisymm (parts_of alphabet rules b).0 (parts_of alphabet rules a).0,
        nat_cmp_total.antisymm (parts_of alphabet rules b).1 (parts_of alphabet rules a).1,
      ) at not_before))

  rise_to : (bound a b : ℕ) → a < b → b < bound → b < symbol_count alphabet rules → symbol_order alphabet rules a b ≡ Less
  rise_to zero a b before under within = absurd (omega arith)
  rise_to (suc bound) a b before under within = elim (cases_lt a alphabet) [
    | inl terminal ↦ symbol_order-terminal alphabet rules settled.below a b terminal within ∙ nat_cmp-less a b before
    | inr rule ↦ rules_rise a b rule before within (λ c d before' under'. rise_to bound c d before' (omega arith) (omega arith))
  ]

  pub new_symbol-settled : (symbol : ℕ) → symbol < symbol_count alphabet rules → new_symbol alphabet rules symbol ≡ symbol
  new_symbol-settled symbol within =
      let count = symbol_count alphabet rules in
      new_symbol-same alphabet rules symbol within (λ other also.
      order_from count (λ a b before under. rise_to (suc b) a b before (omega arith) under) other symbol also within)

  -- and settling changes nothing
  pub settled_rules-same : settled_rules alphabet rules ≡ rules
  settled_rules-same =
      let many = length-settled_rules alphabet rules settled.below in
      same_lists (settled_rules alphabet rules) rules many (λ j d within.
      let symbol : ℕ = alphabet + j in
      let inside : symbol < symbol_count alphabet rules = omega (arith, many) in
      let parts = parts-below alphabet rules settled.below symbol (omega arith) inside in
      let left = new_symbol-settled (parts_of alphabet rules symbol).0 (omega (arith, parts.0)) in
      let right = new_symbol-settled (parts_of alphabet rules symbol).1 (omega (arith, parts.1)) in
      let place : symbol - alphabet ≡ j = omega arith in
      let now = settled_rules-parts alphabet rules settled.below symbol (omega arith) inside in
      get_or_default (settled_rules alphabet rules) j d (0, 0) within
      ∙ (rw (new_symbol-settled symbol inside, left, right, place) at now)
      ∙ get_or_default rules j (0, 0) d (omega (arith, many)))

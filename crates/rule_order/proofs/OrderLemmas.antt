-- The order of symbols: it is total, and goes by layers and parts.
use Rattle.std.proofs.Common.{◌≡◌, ℕ, zero, suc, ◌-◌, ◌<◌, ◌≤◌, List, Ordering, length, refl, ap, sym, ◌∙◌, arith, inl, inr}
use Rattle.std.specs.Cmp.{IsTotalOrder}
use Rattle.std.specs.Ordering.{nat_cmp, ordering_then}
use Rattle.std.specs.declared.cmp.Ordering.TheVariants.{Less, Equal, Greater}
use Rattle.std.proofs.lemmas.Bool.{cases_lt, cases_order}
use Rattle.std.proofs.lemmas.Bool.Decides.{nat_tests}
use Rattle.std.proofs.lemmas.Cmp.{nat_cmp_total, on_total, then_total, tied_itself}
use Rattle.rule_store.specs.Flaws.{rule_parts}
use Rattle.rule_order.specs.Layers.{AreBelow, layer_of, parts_of, symbol_count}
use Rattle.rule_order.specs.Order.{order_to, symbol_order}
use Rattle.rule_order.proofs.LayerLemmas.{is_rule, is_terminal, layer_of-low, layer_of-rule, layer_of-terminal, layers-fall, parts-below}

pub nat_cmp-less : (a b : ℕ) → a < b → nat_cmp a b ≡ Less
nat_cmp-less a b less = grind (arith, nat_tests)

pub nat_cmp-greater : (a b : ℕ) → b < a → nat_cmp a b ≡ Greater
nat_cmp-greater a b greater = grind (arith, nat_tests)

pub nat_cmp-same : (a b : ℕ) → a ≡ b → nat_cmp a b ≡ Equal
nat_cmp-same a b same = grind (arith, nat_tests)

pub from_nat_cmp : (a b : ℕ) → nat_cmp a b ≡ Equal → a ≡ b
from_nat_cmp a b tied = grind (arith, nat_tests)

pub less_from_nat_cmp : (a b : ℕ) → nat_cmp a b ≡ Less → a < b
less_from_nat_cmp a b less = grind (arith, nat_tests)

then_tied : (a b : Ordering) → ordering_then a b ≡ Equal → b ≡ Equal
then_tied Less b tied = absurd (cc)
then_tied Equal b tied = tied
then_tied Greater b tied = absurd (cc)

module _ (alphabet : ℕ) (rules : List (ℕ × ℕ)) where
  pub order_to-total : (depth : ℕ) → IsTotalOrder (order_to alphabet rules depth)
  unfolding order_to
  order_to-total zero = nat_cmp_total
  order_to-total (suc depth) =
      then_total (on_total (layer_of alphabet rules) nat_cmp_total)
      (then_total (on_total (λ symbol. (parts_of alphabet rules symbol).0) (order_to-total depth))
      (then_total (on_total (λ symbol. (parts_of alphabet rules symbol).1) (order_to-total depth)) nat_cmp_total))

  -- no two symbols tie
  pub order_to-apart : (depth a b : ℕ) → order_to alphabet rules depth a b ≡ Equal → a ≡ b
  unfolding order_to
  order_to-apart zero a b tied = from_nat_cmp a b tied
  order_to-apart (suc depth) a b tied =
      let lefts = order_to alphabet rules depth (parts_of alphabet rules a).0 (parts_of alphabet rules b).0 in
      let rights = order_to alphabet rules depth (parts_of alphabet rules a).1 (parts_of alphabet rules b).1 in
      let behind = ordering_then lefts (ordering_then rights (nat_cmp a b)) in
      from_nat_cmp a b (then_tied rights (nat_cmp a b) (then_tied lefts (ordering_then rights (nat_cmp a b))
      (then_tied (nat_cmp (layer_of alphabet rules a) (layer_of alphabet rules b)) behind tied)))

  -- by layer, then by the parts, then by number
  abbrev pub by_parts : (ℕ → ℕ → Ordering) → ℕ → ℕ → Ordering
  by_parts order a b =
      ordering_then (nat_cmp (layer_of alphabet rules a) (layer_of alphabet rules b))
      (ordering_then (order (parts_of alphabet rules a).0 (parts_of alphabet rules b).0)
      (ordering_then (order (parts_of alphabet rules a).1 (parts_of alphabet rules b).1) (nat_cmp a b)))

  module _ (below : AreBelow alphabet rules) where
    -- two orders that agree on the parts
    by_parts-agree : (one other : ℕ → ℕ → Ordering) (a b : ℕ) →
        (layer_of alphabet rules a ≡ layer_of alphabet rules b →
        (one (parts_of alphabet rules a).0 (parts_of alphabet rules b).0 ≡ other (parts_of alphabet rules a).0 (parts_of alphabet rules b).0)
        × (one (parts_of alphabet rules a).1 (parts_of alphabet rules b).1 ≡ other (parts_of alphabet rules a).1 (parts_of alphabet rules b).1)) →
        by_parts one a b ≡ by_parts other a b
    by_parts-agree one other a b agree = elim (cases_order (layer_of alphabet rules a) (layer_of alphabet rules b)) [
      | inl same ↦ let parts = agree same in rw (parts.0, parts.1) refl
      | inr differ ↦ elim differ [
        | inl lower ↦ rw (nat_cmp-less _ _ lower) refl
        | inr higher ↦ rw (nat_cmp-greater _ _ higher) refl
      ]
    ]

    -- terminals have nothing to be told apart by but their numbers
    same_parts : (a b : ℕ) → a < alphabet → b < alphabet → parts_of alphabet rules a ≡ parts_of alphabet rules b
    same_parts a b first second =
        let none : a - alphabet ≡ b - alphabet = omega arith in
        ap (rule_parts rules) none

    -- one step more does not matter where there are enough for both layers
    order_to-enough : (depth a b : ℕ) → a < symbol_count alphabet rules → b < symbol_count alphabet rules →
        layer_of alphabet rules a ≤ depth → layer_of alphabet rules b ≤ depth →
        order_to alphabet rules depth a b ≡ by_parts (order_to alphabet rules depth) a b
    unfolding order_to
    order_to-enough zero a b within also low low' =
        let first = is_terminal alphabet rules below a within (omega arith) in
        let second = is_terminal alphabet rules below b also (omega arith) in
        let parts = same_parts a b first second in
        let levels : nat_cmp (layer_of alphabet rules a) (layer_of alphabet rules b) ≡ Equal =
        nat_cmp-same (layer_of alphabet rules a) (layer_of alphabet rules b) (omega arith) in
        rw (levels, nat_cmp-same _ _ (ap (λ p. p.0) parts), nat_cmp-same _ _ (ap (λ p. p.1) parts)) refl
    order_to-enough (suc depth) a b within also low low' =
        by_parts-agree (order_to alphabet rules depth) (order_to alphabet rules (suc depth)) a b (λ same.
        elim (cases_lt 0 (layer_of alphabet rules a)) [
          | inl high ↦
              let rule = is_rule alphabet rules below a high in
              let rule' = is_rule alphabet rules below b (omega arith) in
              let fall = layers-fall alphabet rules below a rule within in
              let fall' = layers-fall alphabet rules below b rule' also in
              let parts = parts-below alphabet rules below a rule within in
              let parts' = parts-below alphabet rules below b rule' also in (
                order_to-enough depth (parts_of alphabet rules a).0 (parts_of alphabet rules b).0
                    (omega (arith, parts.0)) (omega (arith, parts'.0)) (omega (arith, fall.0)) (omega (arith, fall'.0)),
                order_to-enough depth (parts_of alphabet rules a).1 (parts_of alphabet rules b).1
                    (omega (arith, parts.1)) (omega (arith, parts'.1)) (omega (arith, fall.1)) (omega (arith, fall'.1)),
              )
          | inr zero_layer ↦
              let first = is_terminal alphabet rules below a within (omega arith) in
              let second = is_terminal alphabet rules below b also (omega arith) in
              let parts = same_parts a b first second in
              (tied_alike (ap (λ p. p.0) parts), tied_alike (ap (λ p. p.1) parts))
        ])
      where
        tied_alike : {x y : ℕ} → x ≡ y → order_to alphabet rules depth x y ≡ order_to alphabet rules (suc depth) x y
        tied_alike {x} {y} same =
            ap (order_to alphabet rules depth x) (sym same) ∙ tied_itself (order_to-total depth) x
            ∙ sym (tied_itself (order_to-total (suc depth)) x) ∙ ap (order_to alphabet rules (suc depth) x) same

    -- symbols go by layer, then by their parts, then by number
    pub symbol_order-by_parts : (a b : ℕ) → a < symbol_count alphabet rules → b < symbol_count alphabet rules →
        symbol_order alphabet rules a b ≡ by_parts (symbol_order alphabet rules) a b
    symbol_order-by_parts a b within also =
        order_to-enough (length rules) a b within also (layer_of-low alphabet rules below a within)
        (layer_of-low alphabet rules below b also)

    -- a symbol of a lower layer comes before one of a higher
    pub symbol_order-layers : (a b : ℕ) → a < symbol_count alphabet rules → b < symbol_count alphabet rules →
        layer_of alphabet rules a < layer_of alphabet rules b → symbol_order alphabet rules a b ≡ Less
    symbol_order-layers a b within also lower =
        symbol_order-by_parts a b within also ∙ rw (nat_cmp-less _ _ lower) refl

    -- terminals go by number, and before rules
    pub symbol_order-terminal : (a b : ℕ) → a < alphabet → b < symbol_count alphabet rules →
        symbol_order alphabet rules a b ≡ nat_cmp a b
    symbol_order-terminal a b terminal within =
        elim (cases_lt b alphabet) [
          | inl also ↦
              let parts = same_parts a b terminal also in
              let levels : layer_of alphabet rules a ≡ layer_of alphabet rules b =
              layer_of-terminal alphabet rules below a terminal ∙ sym (layer_of-terminal alphabet rules below b also) in
              let total = order_to-total (length rules) in
              symbol_order-by_parts a b (omega arith) within
              ∙ rw (
                nat_cmp-same _ _ levels,
                parts,
                tied_itself total (parts_of alphabet rules b).0,
                tied_itself total (parts_of alphabet rules b).1,
              ) refl
          | inr rule ↦
              symbol_order-layers a b (omega arith) within
              (omega (arith, layer_of-terminal alphabet rules below a terminal, layer_of-rule alphabet rules below b rule within))
              ∙ sym (nat_cmp-less a b (omega arith))
        ]

use Rattle.std.proofs.Common.{◌≡◌, ℕ, List, ◌+◌, ◌-◌, ◌<◌, ap, arith, refl, ◌∙◌}
use Rattle.std.specs.Prelude.{slice_index}
use Rattle.std.proofs.lemmas.List.{length-set}
use Rattle.rule_order.specs.Order.{new_symbol}
use Rattle.rule_order.proofs.RankLemmas.{place-new_symbol}
use Rattle.rule_order.proofs.ScatterLemmas.{filled-all, filled-more, length-places, place-is}
use Rattle.rule_order.proofs.SettledLemmas.{new_symbol-rule}
use Rattle.rule_order.proofs.grammar.Grammar.settled.Goals as goal

pub bounds-places-self : goal.bounds-places-self
bounds-places-self c =
    omega (arith, length-places c.args.self.now.alphabet c.args.self.now.rules.now c.args.places.now c.requires.places, c.loop-rule-test.true)

pub bounds-places-left : goal.bounds-places-left
bounds-places-left c =
    omega (
      arith,
      length-places c.args.self.now.alphabet c.args.self.now.rules.now c.args.places.now c.requires.places,
      (c.requires.below c.loop-rule.rule c.loop-rule-test.true).0,
      c.loop-rule-test.true,
    )

pub bounds-places-right : goal.bounds-places-right
bounds-places-right c =
    omega (
      arith,
      length-places c.args.self.now.alphabet c.args.self.now.rules.now c.args.places.now c.requires.places,
      (c.requires.below c.loop-rule.rule c.loop-rule-test.true).1,
      c.loop-rule-test.true,
    )

pub overflow_sub-symbol : goal.overflow_sub-symbol
overflow_sub-symbol c =
    let alphabet = c.args.self.now.alphabet in
    let rules = c.args.self.now.rules.now in
    let symbol : ℕ = alphabet + c.loop-rule.rule in
    omega (
      arith,
      place-is alphabet rules c.args.places.now c.requires.places symbol (omega (arith, c.loop-rule-test.true)),
      new_symbol-rule alphabet rules c.requires.below symbol (omega arith) (omega (arith, c.loop-rule-test.true)),
    )

pub index_mut-requires : goal.index_mut-requires
index_mut-requires c =
    let alphabet = c.args.self.now.alphabet in
    let rules = c.args.self.now.rules.now in
    let symbol : ℕ = alphabet + c.loop-rule.rule in
    omega (
      arith,
      place-is alphabet rules c.args.places.now c.requires.places symbol (omega (arith, c.loop-rule-test.true)),
      new_symbol-rule alphabet rules c.requires.below symbol (omega arith) (omega (arith, c.loop-rule-test.true)),
      (place-new_symbol alphabet rules symbol 0 (omega (arith, c.loop-rule-test.true))).0,
      c.loop-rule.invariant.len,
      c.loop-rule.settled.ok.0,
    )

pub loop-rule-preserved : goal.loop-rule-preserved
loop-rule-preserved c =
    let alphabet = c.args.self.now.alphabet in
    let rules = c.args.self.now.rules.now in
    let places : List ℕ = c.args.places.now in
    let rule : ℕ = c.loop-rule.rule in
    let symbol : ℕ = alphabet + rule in
    let here : symbol - alphabet ≡ rule = omega arith in
    let below = c.requires.below rule c.loop-rule-test.true in
    let is : (s : ℕ) → s < symbol → slice_index places s ≡ new_symbol alphabet rules s =
    λ s low. place-is alphabet rules places c.requires.places s (omega (arith, c.loop-rule-test.true)) in
    let place = place-is alphabet rules places c.requires.places symbol (omega (arith, c.loop-rule-test.true)) in
    record {
      len = length-set c.loop-rule.settled.items _ _ ∙ c.loop-rule.invariant.len;
      done = filled-more alphabet rules c.requires.below c.loop-rule.settled.items rule _ _ c.loop-rule-test.true c.loop-rule.invariant.len
          (ap (λ n. n - alphabet) place)
          (rw (is _ below.0, is _ below.1, here) refl)
          c.loop-rule.invariant.done;
    }

pub returns : goal.returns
returns c =
    filled-all c.args.self.now.alphabet c.args.self.now.rules.now c.requires.below c.loop-rule.settled.items c.loop-rule.invariant.len
    (λ i within. c.loop-rule.invariant.done i (omega (arith, c.loop-rule-test.false)))

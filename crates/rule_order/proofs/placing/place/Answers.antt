use Rattle.std.proofs.Common.{◌≡◌, ◌<◌, arith, inl, inr, length, subst, sym, ◌∙◌}
use Rattle.std.specs.Prelude.{slice_index, slice_set}
use Rattle.std.proofs.lemmas.Bool.{cases_lt}
use Rattle.std.proofs.lemmas.List.{length-set}
use Rattle.rule_order.specs.Queue.{symbol_at}
use Rattle.rule_order.proofs.PlaceLemmas.{set-gives, set-keeps}
use Rattle.rule_order.proofs.placing.place.Goals as goal

pub loop-key-preserved : goal.loop-key-preserved
loop-key-preserved c =
    let keys = c.args.keys.now in
    let done = c.loop-key.invariant in
    let at = symbol_at keys c.loop-key.key-index in
    let short : at < length c.loop-key.places.items = omega (arith, done.len, c.requires.within c.loop-key.key-index c.loop-key-test.true) in
    record {
      next = omega (arith, done.next);
      len = length-set c.loop-key.places.items at c.loop-key.next ∙ done.len;
      kept = λ number numbered symbol had.
          set-keeps c.loop-key.places.items at c.loop-key.next number symbol short
          (done.next ∙ sym (numbered c.loop-key.key-index c.loop-key-test.true)) (done.kept number numbered symbol had);
      placed = λ number numbered i before.
          let is = done.next ∙ sym (numbered c.loop-key.key-index c.loop-key-test.true) in
          elim (cases_lt i c.loop-key.key-index) [
            | inl earlier ↦ set-keeps c.loop-key.places.items at c.loop-key.next number (symbol_at keys i) short is (done.placed number numbered i earlier)
            | inr now ↦
                let same : c.loop-key.key-index ≡ i = omega arith in
                subst (λ k. slice_index (slice_set c.loop-key.places.items at c.loop-key.next) (symbol_at keys k) ≡ number (symbol_at keys k))
                same (set-gives c.loop-key.places.items at c.loop-key.next number short is)
          ];
    }

pub returns-clause-placed : goal.returns-clause-placed
returns-clause-placed c = λ number numbered i within.
    c.loop-key.invariant.placed number numbered i (omega (arith, c.loop-key-test.false))

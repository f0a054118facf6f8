use Rattle.std.proofs.Common.{ℕ, List, ◌+◌, ◌<◌, arith, get_or, length, map, subst, sym}
use Rattle.std.specs.List.{slice_range}
use Rattle.std.specs.List.Sorted.{IsPermutation, IsSorted}
use Rattle.rule_order.specs.Order.{new_symbol}
use Rattle.rule_order.specs.Queue.{AreNumbered, IsLayerEnd, IsTold, Key, key_cmp, key_of}
use Rattle.rule_order.proofs.StepLemmas.{keys-numbered, keys-within, length-keys, length-queue, parted-more, placed-more, told}
use Rattle.rule_order.proofs.grammar.Grammar.number_layer.Goals as goal
use Rattle.rule_order.proofs.grammar.Grammar.number_layer.Goals.{After-as_slice-2, After-layer_end-to}

end_of : (c : After-layer_end-to) → IsLayerEnd c.args.queue.now c.args.from c.layer_end-to.result
end_of c = record {
  above = c.layer_end-to.ensures.above;
  within = c.layer_end-to.ensures.within;
  alike = c.layer_end-to.ensures.alike;
  other = c.layer_end-to.ensures.other;
}

-- the keys of the layer, in order
record AreKeys (alphabet : ℕ) (rules queue : List (ℕ × ℕ)) (from to : ℕ) (keys : List Key) : Type 0 where
  keyed : IsPermutation (map (key_of alphabet rules) (slice_range queue from to)) keys
  sorted : IsSorted key_cmp keys

known : (c : After-as_slice-2) →
    AreKeys c.args.self.now.alphabet c.args.self.now.rules.now c.args.queue.now c.args.from c.layer_end-to.result c.as_slice-2.result.now
known c = record {
  keyed = subst (λ xs. IsPermutation xs c.as_slice-2.result.now) c.in_ok-keys.ensures
      (subst (IsPermutation c.in_ok-keys.keys.items) (sym c.as_slice-2.ensures.value) c.sort_unstable.ensures.permutation);
  sorted = subst (IsSorted key_cmp) (sym c.as_slice-2.ensures.value) c.sort_unstable.ensures.sorted;
}

pub keys-requires : goal.keys-requires
keys-requires c = record {
  told = subst (λ places. (i : ℕ) → i < length (slice_range c.args.queue.now c.args.from c.layer_end-to.result) →
      IsTold c.args.self.now.alphabet c.args.self.now.rules.now places (get_or (slice_range c.args.queue.now c.args.from c.layer_end-to.result) i (0, 0)))
      (sym c.as_slice.ensures.value)
      (told c.args.self.now.alphabet c.args.self.now.rules.now c.requires.below c.args.queue.now c.requires.queued c.args.from
      c.layer_end-to.result (end_of (goal.at.keys-requires c).After-layer_end-to) c.args.places.now.items c.requires.parted c.requires.done);
}

pub overflow_cast-from : goal.overflow_cast-from
overflow_cast-from c =
    omega (
      arith,
      c.requires.some,
      length-queue c.args.self.now.alphabet c.args.self.now.rules.now c.requires.below c.args.queue.now c.requires.queued,
      c.args.self.now.fits,
    )

pub overflow_add-self : goal.overflow_add-self
overflow_add-self c =
    omega (
      arith,
      c.requires.some,
      length-queue c.args.self.now.alphabet c.args.self.now.rules.now c.requires.below c.args.queue.now c.requires.queued,
      c.args.self.now.fits,
    )

pub place-requires-clause-within : goal.place-requires-clause-within
place-requires-clause-within c = λ i short.
    let keys = known (goal.at.place-requires-clause-within c).After-as_slice-2 in
    omega (
      arith,
      keys-within c.args.self.now.alphabet c.args.self.now.rules.now c.requires.below c.args.queue.now c.requires.queued c.args.from
          c.layer_end-to.result (end_of (goal.at.place-requires-clause-within c).After-layer_end-to) c.requires.parted
          c.as_slice-2.result.now keys.keyed i short,
      c.requires.done.long,
    )

pub place-requires-clause-fits : goal.place-requires-clause-fits
place-requires-clause-fits c =
    let keys = known (goal.at.place-requires-clause-fits c).After-as_slice-2 in
    omega (
      arith,
      length-keys c.args.self.now.alphabet c.args.self.now.rules.now c.requires.below c.args.queue.now c.requires.queued c.args.from
          c.layer_end-to.result (end_of (goal.at.place-requires-clause-fits c).After-layer_end-to) c.requires.parted
          c.as_slice-2.result.now keys.keyed,
      c.layer_end-to.ensures.above,
      c.layer_end-to.ensures.within,
      length-queue c.args.self.now.alphabet c.args.self.now.rules.now c.requires.below c.args.queue.now c.requires.queued,
      c.args.self.now.fits,
    )

pub returns-clause-parted : goal.returns-clause-parted
returns-clause-parted c =
    parted-more c.args.self.now.alphabet c.args.self.now.rules.now c.requires.below c.args.queue.now c.requires.queued c.args.from
    c.layer_end-to.result (end_of (goal.at.returns-clause-parted c).After-layer_end-to) c.requires.parted

pub returns-clause-done : goal.returns-clause-done
returns-clause-done c =
    let alphabet = c.args.self.now.alphabet in
    let rules = c.args.self.now.rules.now in
    let end = end_of (goal.at.returns-clause-done c).After-layer_end-to in
    let keys = known (goal.at.returns-clause-done c).After-as_slice-2 in
    let numbered : AreNumbered (new_symbol alphabet rules) (alphabet + c.args.from) c.as_slice-2.result.now =
    keys-numbered alphabet rules c.requires.below c.args.queue.now c.requires.queued c.args.from c.layer_end-to.result end
    c.requires.parted c.as_slice-2.result.now keys.keyed keys.sorted in
    placed-more alphabet rules c.requires.below c.args.queue.now c.requires.queued c.args.from c.layer_end-to.result end
    c.requires.parted c.as_slice-2.result.now keys.keyed c.args.places.now.items c.place.new.places.items c.requires.done
    c.place.ensures.len (c.place.ensures.kept (new_symbol alphabet rules) numbered) (c.place.ensures.placed (new_symbol alphabet rules) numbered)

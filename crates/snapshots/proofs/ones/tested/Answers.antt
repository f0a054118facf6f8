use Rattle.std.proofs.Common.{◌∙◌, ◌<◌, ◌++◌, ◌∷◌, [], Some, ap, arith, length, sym, ℕ}
use Rattle.snapshots.proofs.OnesLemmas.{first_ones-all, first_ones-begin, first_ones-here, first_ones-none}
use Rattle.snapshots.proofs.ones.tested.Goals as goal
use Rattle.snapshots.proofs.ones.tested.Goals.{then-get+in_ok-push, else-get}

pub loop-place-init : goal.loop-place-init
loop-place-init g c = record {
  places = c.in_ok-places.ensures.items ∙ sym (first_ones-begin c.args.bits.now);
  reads = omega arith;
}

pub returns-in_err-push-clause-cost : goal.returns-in_err-push-clause-cost
returns-in_err-push-clause-cost g c =
    omega (arith, c.get.ensures.cost, c.loop-place.invariant.reads, c.loop-place-test.true, c.len-place-end.ensures)

pub loop-place-preserved : goal.loop-place-preserved
loop-place-preserved g c =
    let bits = c.args.bits.now in
    let place : ℕ = c.loop-place.place in
    let within : place < length bits = omega (arith, c.loop-place-test.true, c.len-place-end.ensures) in
    record {
      places = elim c.if-get.branch [
        | then-get+in_ok-push w ↦
            ap (λ v. v.items) w.places-is ∙ w.in_ok-push.ensures.items
            ∙ ap (λ xs. xs ++ place ∷ []) c.loop-place.invariant.places
            ∙ sym (first_ones-here bits place within (c.get.ensures.value ∙ ap Some w.if-get.true))
        | else-get w ↦
            ap (λ v. v.items) w.places-is ∙ c.loop-place.invariant.places
            ∙ sym (first_ones-none bits place within (c.get.ensures.value ∙ ap Some w.if-get.false))
      ];
      reads = omega (arith, c.get.ensures.cost, c.loop-place.invariant.reads);
    }

pub returns-clause-ok : goal.returns-clause-ok
returns-clause-ok g c =
    c.loop-place.invariant.places
    ∙ first_ones-all c.args.bits.now c.loop-place.place (omega (arith, c.loop-place-test.false, c.len-place-end.ensures))

use Rattle.std.proofs.Common.{◌≡◌, ◌∙◌, ◌++◌, ◌∷◌, [], ap, arith, sym, ℕ}
use Rattle.snapshots.specs.Ones.{first_ones}
use Rattle.snapshots.proofs.OnesLemmas.{first_ones-more}
use Rattle.snapshots.proofs.ones.selected.Goals as goal

pub returns-in_err-push-clause-cost : goal.returns-in_err-push-clause-cost
returns-in_err-push-clause-cost g c =
    omega (arith, c.select1.ensures.cost, c.loop-rank.invariant.reads, c.loop-rank-test.true, c.ones-rank-end.ensures)

pub loop-rank-preserved : goal.loop-rank-preserved
loop-rank-preserved g c =
    let bits = c.args.bits.now in
    let rank : ℕ = c.loop-rank.rank in
    record {
      places = c.in_ok-push.ensures.items ∙ ap (λ xs. xs ++ c.select1.result ∷ []) c.loop-rank.invariant.places
          ∙ ap (λ p. first_ones bits rank ++ p ∷ []) c.select1.ensures.value ∙ sym (first_ones-more bits rank);
      reads = omega (arith, c.select1.ensures.cost, c.loop-rank.invariant.reads);
    }

pub returns-clause-ok : goal.returns-clause-ok
returns-clause-ok g c =
    let all : c.loop-rank.rank ≡ c.ones-rank-end.result =
    omega (arith, c.loop-rank-test.false, c.loop-rank.auto.rank-end) in
    c.loop-rank.invariant.places ∙ ap (first_ones c.args.bits.now) (all ∙ c.ones-rank-end.ensures)

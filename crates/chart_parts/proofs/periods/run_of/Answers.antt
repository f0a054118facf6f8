use Rattle.std.proofs.Common.{arith, eq-eqb, ne_eqb, get_or, sym}
use Rattle.std.specs.Prelude.{◌==◌}
use Rattle.std.proofs.lemmas.List.Sums.{prefix_len_is}
use Rattle.chart_parts.specs.PeriodWith.{no_head}
use Rattle.chart_parts.proofs.periods.run_of.Goals as goal

pub returns-else-heads-run-clause-exact : goal.returns-else-heads-run-clause-exact
returns-else-heads-run-clause-exact c =
    let heads = c.args.heads.now in
    sym (prefix_len_is (λ head. head.period == c.args.number) heads c.loop-run.run no_head c.loop-run.invariant.within
    (λ k below. eq-eqb (get_or heads k no_head).period c.args.number (c.loop-run.invariant.same k below))
    (λ inside. ne_eqb (get_or heads c.loop-run.run no_head).period c.args.number c.if-heads-run.false))

pub returns-after-loop-run-clause-exact : goal.returns-after-loop-run-clause-exact
returns-after-loop-run-clause-exact c =
    let heads = c.args.heads.now in
    sym (prefix_len_is (λ head. head.period == c.args.number) heads c.loop-run.run no_head c.loop-run.invariant.within
    (λ k below. eq-eqb (get_or heads k no_head).period c.args.number (c.loop-run.invariant.same k below))
    (λ inside. absurd (omega arith)))

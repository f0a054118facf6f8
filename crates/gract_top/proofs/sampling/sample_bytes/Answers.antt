use Rattle.std.proofs.Common.{rules}
use Rattle.std.proofs.lemmas.Result.{err_from_is_err_and}
use Rattle.gract_top.proofs.SamplingLemmas.{NotSampled-grid}
use Rattle.gract_top.proofs.sampling.sample_bytes.Goals as goal

pub returns-in_err-chart-clause-err : goal.returns-in_err-chart-clause-err
returns-in_err-chart-clause-err c =
    let gave = err_from_is_err_and c.from_residual-in_err-chart.result c.from_residual-in_err-chart.ensures.1 in
    rw (gave.1, gave.2) (NotSampled-grid c.args.settings c.in_ok-rows.rows.items c.in_ok-rows.ensures.exact
    c.in_ok-rows.ensures.some (search rules) c.in_err-chart.field-0.0
    (rw c.deref.ensures.value at c.in_err-chart.ensures.fault))

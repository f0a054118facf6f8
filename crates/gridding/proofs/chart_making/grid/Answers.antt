use Rattle.std.proofs.Common.{[]}
use Rattle.std.proofs.lemmas.Result.{IfErr-weaker, IfOk-weaker}
use Rattle.gridding.proofs.chart_making.grid.Goals as goal

pub chart-requires-clause-few : goal.chart-requires-clause-few
chart-requires-clause-few c =
    (c.args.cell, c.args.tick, c.args.rows.now, c.in_ok-append.ensures c.args.cell c.args.tick [] c.new-gridded.ensures, c.requires.few)

pub returns-clause-some : goal.returns-clause-some
returns-clause-some c =
    let here = c.in_ok-append.ensures c.args.cell c.args.tick [] c.new-gridded.ensures in
    IfOk-weaker c.chart.result _ _ (λ _ some. some c.args.cell c.args.tick c.args.rows.now here) c.chart.ensures.some

pub returns-clause-ok : goal.returns-clause-ok
returns-clause-ok c =
    let here = c.in_ok-append.ensures c.args.cell c.args.tick [] c.new-gridded.ensures in
    IfOk-weaker c.chart.result _ _ (λ _ ok. ok c.args.cell c.args.tick c.args.rows.now here) c.chart.ensures.ok

pub returns-clause-fault : goal.returns-clause-fault
returns-clause-fault c =
    let here = c.in_ok-append.ensures c.args.cell c.args.tick [] c.new-gridded.ensures in
    IfErr-weaker c.chart.result _ _ (λ _ fault. fault c.args.cell c.args.tick c.args.rows.now here) c.chart.ensures.fault

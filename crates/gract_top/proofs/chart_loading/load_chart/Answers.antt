use Rattle.std.proofs.lemmas.Result.{err_from_is_err_and}
use Rattle.gract_top.proofs.ReceivingLemmas.{IsAccepted-grid, StopsAtChart-grid}
use Rattle.gract_top.proofs.chart_loading.load_chart.Goals as goal

pub returns-in_err-chart-clause-err : goal.returns-in_err-chart-clause-err
returns-in_err-chart-clause-err g c =
    let gave = err_from_is_err_and c.from_residual-in_err-chart.result c.from_residual-in_err-chart.ensures.1 in
    let rows = c.in_ok-rows.ensures.rows in
    rw (gave.1, gave.2) (StopsAtChart-grid c.args.csv.now c.args.settings _ _ rows.bytes rows.gridded.raws c.in_ok-rows.ensures.file
    rows.loaded rows.gridded.rows_of c.in_err-chart.field-0.0
    (c.in_err-chart.ensures.fault c.args.settings.cell c.args.settings.tick rows.gridded.raws rows.gridded.gridded))

pub returns-clause-ok : goal.returns-clause-ok
returns-clause-ok g c =
    let rows = c.in_ok-rows.ensures.rows in
    let raws = rows.gridded.raws in
    let some = c.in_ok-chart.ensures.some c.args.settings.cell c.args.settings.tick raws rows.gridded.gridded in
    let ok = c.in_ok-chart.ensures.ok c.args.settings.cell c.args.settings.tick raws rows.gridded.gridded in
    record {
      accepted = IsAccepted-grid _ _ _ _ rows.bytes raws c.args.settings _ rows.loaded rows.gridded.rows_of some ok.0 ok.1;
      file = c.in_ok-rows.ensures.file;
    }

use Rattle.std.proofs.Common.{rules}
use Rattle.std.proofs.lemmas.Result.{err_from_is_err_and}
use Rattle.track_types.specs.declared.limit.LimitKind.TheVariants as limit
use Rattle.gract_top.proofs.ReceivingLemmas.{HasReceived-since}
use Rattle.gract_top.proofs.StoppingLemmas.{LoadsFile-loaded, StopsAtChart-rows}
use Rattle.gract_top.proofs.chart_loading.load_rows.Goals as goal

pub returns-clause-rows : goal.returns-clause-rows
returns-clause-rows g c =
    let came = c.in_ok-load.ensures.came in
    let has = HasReceived-since _ _ c.new-receiver.result c.load.new.receiver came.bytes c.new-receiver.ensures.gridded came.received in
    record {
      bytes = came.bytes;
      loaded = came.loaded;
      gridded = c.in_ok-finish.ensures.ok c.args.settings.cell c.args.settings.tick came.bytes has;
    }

pub returns-in_err-finish-clause-err : goal.returns-in_err-finish-clause-err
returns-in_err-finish-clause-err g c =
    let gave = err_from_is_err_and c.from_residual-in_err-finish.result c.from_residual-in_err-finish.ensures.1 in
    let came = c.in_ok-load.ensures.came in
    let has = HasReceived-since _ _ c.new-receiver.result c.load.new.receiver came.bytes c.new-receiver.ensures.gridded came.received in
    let loads = LoadsFile-loaded g.F.Files _ _ c.args.csv.now limit.Csv c.load.result c.load.ensures.loads c.load.ensures.taken
    (search rules) in
    rw (gave.1, gave.2) (StopsAtChart-rows c.args.csv.now c.args.settings _ _ came.bytes loads came.loaded
    c.in_err-finish.field-0.0 (c.in_err-finish.ensures.fault c.args.settings.cell c.args.settings.tick came.bytes has))

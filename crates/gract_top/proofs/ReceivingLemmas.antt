-- What a receiver of rows has taken, and why a file is refused for its rows.
use Rattle.std.proofs.Common.{◌≡◌, ◌≢◌, ℕ, List, [], Option, None, arith}
use Rattle.history.specs.Loads.{Load}
use Rattle.host_ports.specs.FileMap.{FileMap}
use Rattle.track_types.specs.declared.limit.LimitKind.TheVariants as limit
use Rattle.track_types.specs.declared.raw_row.RawRow.{RawRow}
use Rattle.row_reader.specs.Pieces.{AreRowsOf}
use Rattle.track_types.specs.Chart.{ChartView}
use Rattle.gridding.specs.ChartOf.{chart_of}
use Rattle.gridding.specs.GridLimit.{IsGridFault, grid_limit}
use Rattle.gridding.specs.declared.fault.GridFault.{GridFault}
use Rattle.gridding.specs.GriddedRows.{HasGridded}
use Rattle.gract_top.specs.Extending.{extension_outcome}
use Rattle.gract_top.specs.Loading.{IsLoaded}
use Rattle.gract_top.specs.Receiving.{HasReceived, HasReceivedSince}
use Rattle.gract_top.specs.Refusal.{IsAccepted}
use Rattle.gract_top.specs.Stopping.{LoadsFile, StopsAtChart}
use Rattle.gract_top.specs.declared.request.Settings.{Settings}
use Rattle.gract_top.specs.declared.rows_receiver.RowsReceiver.{RowsReceiver}
use Rattle.host_ports.specs.FilesState.{FilesState}

-- a receiver grids by the CELL and the TICK by which it began
pub HasReceived-since : (cell tick : ℕ) (start receiver : RowsReceiver) (bytes : List ℕ) → HasGridded cell tick [] start.rows →
    HasReceivedSince start bytes receiver → HasReceived cell tick bytes receiver
HasReceived-since cell tick start receiver bytes began since = grind (arith)

-- a call ended at a CSV file whose rows were gridded, since they have no chart
pub StopsAtChart-grid : (csv : List ℕ) (settings : Settings) (before now : FilesState) (bytes : List ℕ)
    (raws : List RawRow) → LoadsFile csv limit.Csv before now →
    IsLoaded limit.Csv before.map now.loads now.taken csv bytes → AreRowsOf bytes raws → (cause : GridFault) →
    IsGridFault raws settings.cell settings.tick settings.period cause →
    StopsAtChart (extension_outcome cause) csv settings before now
StopsAtChart-grid csv settings before now bytes raws loads loaded all cause is = grind (arith)

-- a file of which all rows came is accepted where no quantity of their chart passes its limit
pub IsAccepted-grid : (map : Option FileMap) (loads : List Load) (taken : ℕ) (csv bytes : List ℕ) (raws : List RawRow) (settings : Settings)
    (chart : ChartView) → IsLoaded limit.Csv map loads taken csv bytes → AreRowsOf bytes raws → raws ≢ [] →
    grid_limit raws settings.cell settings.tick settings.period ≡ None →
    chart ≡ chart_of raws settings.cell settings.tick settings.period → IsAccepted map loads taken csv settings chart
IsAccepted-grid map loads taken csv bytes raws settings chart loaded all some none is = grind (arith)

-- What came of a CSV file as rows that are gridded.
use Rattle.std.specs.Prelude.{ℕ, List, [], Option}
use Rattle.history.specs.Loads.{Load}
use Rattle.host_ports.specs.FileMap.{FileMap}
use Rattle.track_types.specs.declared.limit.LimitKind.TheVariants as limit
use Rattle.track_types.specs.declared.raw_row.RawRow.{RawRow}
use Rattle.row_reader.specs.Pieces.{AreRowsOf, HasTaken}
use Rattle.gridding.specs.GriddedRows.{HasGridded}
use Rattle.gridding.specs.declared.gridded_rows.GriddedRows.{GriddedRows}
use Rattle.gract_top.specs.Loading.{IsLoaded}
use Rattle.gract_top.specs.declared.request.Settings.{Settings}
use Rattle.gract_top.specs.declared.rows_receiver.RowsReceiver.{RowsReceiver}

-- A receiver of rows has taken these bytes, and gridded the rows that its parser gave.
pub record HasReceived (cell tick : ℕ) (bytes : List ℕ) (receiver : RowsReceiver) : Type 0 where
  pub raws : List RawRow
  pub taken : HasTaken bytes raws receiver.parser
  pub gridded : HasGridded cell tick raws receiver.rows

-- a receiver has taken these bytes since it was the first one, by whichever CELL and TICK that began
abbrev pub HasReceivedSince : RowsReceiver → List ℕ → RowsReceiver → Type 0
HasReceivedSince start bytes receiver =
    (cell : ℕ) × (tick : ℕ) × HasGridded cell tick [] start.rows × HasReceived cell tick bytes receiver

-- All rows of these bytes, which are accepted, were gridded.
pub record AreGriddedRowsOf (cell tick : ℕ) (bytes : List ℕ) (rows : GriddedRows) : Type 0 where
  pub raws : List RawRow
  pub rows_of : AreRowsOf bytes raws
  pub gridded : HasGridded cell tick raws rows

-- The bytes that came of the CSV file are accepted, and their rows were gridded.
pub record HasGriddedRows (map : Option FileMap) (loads : List Load) (taken : ℕ) (csv : List ℕ) (settings : Settings) (rows : GriddedRows) :
    Type 0 where
  pub bytes : List ℕ
  pub loaded : IsLoaded limit.Csv map loads taken csv bytes
  pub gridded : AreGriddedRowsOf settings.cell settings.tick bytes rows

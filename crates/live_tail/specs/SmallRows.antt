-- Rows in sixteen bytes, whose instants and cells are counted from those of an origin.
use Rattle.std.specs.Prelude.{pos, ◌+ℤ◌, List, map}
use Rattle.track_types.specs.declared.row.Row.{Row}
use Rattle.live_tail.specs.Counted.{IsCounted}
use Rattle.live_tail.specs.declared.small_row.Origin.{Origin}
use Rattle.live_tail.specs.declared.small_row.SmallRow.{SmallRow}
use Rattle.live_tail.specs.declared.small_rows.SmallRows.{SmallRows}

-- the row that a small one stands for
abbrev pub row_from : Origin → SmallRow → Row
row_from origin small = record {
  object = small.object;
  instant = origin.instant +ℤ pos small.instant;
  cell = record { x = origin.x +ℤ pos small.x; y = origin.y +ℤ pos small.y };
}

-- the rows that small ones stand for
abbrev pub rows_from : Origin → List SmallRow → List Row
rows_from origin smalls = map (row_from origin) smalls

-- the rows that a slice of small ones has
abbrev pub rows_in : SmallRows → List Row
rows_in rows = rows_from rows.origin rows.rows.now

-- a row's instant and cell can be counted from an origin
pub record IsCountedFrom (origin : Origin) (row : Row) : Type 0 where
  pub instant : IsCounted origin.instant row.instant
  pub x : IsCounted origin.x row.cell.x
  pub y : IsCounted origin.y row.cell.y

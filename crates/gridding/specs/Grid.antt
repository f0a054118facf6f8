-- The numbers by which rows are gridded.
use Rattle.std.specs.Prelude.{ℕ}
use Rattle.gridding.specs.declared.divisor.Divisor.{Divisor}
use Rattle.gridding.specs.declared.row_gridding.Grid.{Grid}

-- the number that a divisor is
abbrev pub divisor_value : Divisor → ℕ
divisor_value divisor = divisor.value

-- the width of a cell
abbrev pub cell_width : Grid → ℕ
cell_width grid = grid.cell.value

-- the length of an instant
abbrev pub tick_length : Grid → ℕ
tick_length grid = grid.tick.value

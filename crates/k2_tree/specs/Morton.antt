-- Cells of a square grid, and the Morton numbers that order them.
use Rattle.std.specs.Prelude.{ℕ, zero, suc, ◌+◌, ◌*◌, ◌/◌, ◌%◌, ◌^◌, ◌<◌, ◌≤◌, pos, neg_ℤ, ◌+ℤ◌, ◌-ℤ◌, ◌≤ℤ◌}
use Rattle.std.specs.Int.RustNames.{unsigned_abs}
use Rattle.track_types.specs.declared.cell.Cell.{Cell}
use Rattle.track_types.specs.declared.limit.TheConstants.{MAX_ASKED, MAX_HEIGHT}

-- the side of the grid is 2 ^ height, and its least corner is near
pub record IsGrid (height : ℕ) (base : Cell) : Type 0 where
  pub some : 1 ≤ height
  pub limit : height ≤ MAX_HEIGHT
  pub left : neg_ℤ (pos MAX_ASKED) ≤ℤ base.x
  pub right : base.x ≤ℤ pos MAX_ASKED
  pub below : neg_ℤ (pos MAX_ASKED) ≤ℤ base.y
  pub above : base.y ≤ℤ pos MAX_ASKED

-- a base near 0
pub record IsBase (base : Cell) : Type 0 where
  pub left : neg_ℤ (pos MAX_ASKED) ≤ℤ base.x
  pub right : base.x ≤ℤ pos MAX_ASKED
  pub below : neg_ℤ (pos MAX_ASKED) ≤ℤ base.y
  pub above : base.y ≤ℤ pos MAX_ASKED

-- the cell is in the grid
pub record IsInGrid (height : ℕ) (base cell : Cell) : Type 0 where
  pub left : base.x ≤ℤ cell.x
  pub right : unsigned_abs (cell.x -ℤ base.x) < 2 ^ height
  pub below : base.y ≤ℤ cell.y
  pub above : unsigned_abs (cell.y -ℤ base.y) < 2 ^ height

-- the number of n digits to base 4; each digit is twice a bit of the row and the same bit of the column
unfoldable pub interleaved : ℕ → ℕ → ℕ → ℕ
interleaved zero row column = 0
interleaved (suc n) row column = 4 * interleaved n (row / 2) (column / 2) + (2 * (row % 2) + column % 2)

-- the Morton number of a cell
unfoldable pub morton_of : ℕ → Cell → Cell → ℕ
morton_of height base cell =
    interleaved height (unsigned_abs (cell.y -ℤ base.y)) (unsigned_abs (cell.x -ℤ base.x))

-- the row of a Morton number of n digits
unfoldable pub morton_row : ℕ → ℕ → ℕ
morton_row zero code = 0
morton_row (suc n) code = 2 * morton_row n (code / 4) + code % 4 / 2

-- the column of a Morton number of n digits
unfoldable pub morton_column : ℕ → ℕ → ℕ
morton_column zero code = 0
morton_column (suc n) code = 2 * morton_column n (code / 4) + code % 4 % 2

-- the cell that has the Morton number
unfoldable pub cell_of : ℕ → Cell → ℕ → Cell
cell_of height base code =
    record { x = base.x +ℤ pos (morton_column height code); y = base.y +ℤ pos (morton_row height code) }

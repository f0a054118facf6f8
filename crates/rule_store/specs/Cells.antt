-- What values of the alphabet mean: where an object is after each of them.
use Rattle.std.specs.Prelude.{ℕ, zero, suc, ℤ, pos, ◌+ℤ◌, List, [], ◌∷◌, Option, Some, None}
use Rattle.std.specs.List.{flat_map}
use Rattle.std.specs.Option.{option_to_list}
use Rattle.spiral_code.specs.Spiral.{move_of}
use Rattle.track_types.specs.declared.cell.Cell.{Cell}

-- the cell in this column and line
abbrev pub cell_with : ℤ → ℤ → Cell
cell_with x y = record { x = x; y = y }

-- the cell that a movement from a cell leads to
abbrev pub moved : Cell → ℤ × ℤ → Cell
moved cell by = cell_with (cell.x +ℤ by.0) (cell.y +ℤ by.1)

-- the movement of a value: that of its code, and none where it is an absence
abbrev pub movement_of : ℕ → ℤ × ℤ
movement_of zero = (pos 0, pos 0)
movement_of (suc code) = move_of code

-- the sum of the values' movements
unfoldable pub displacement_of : List ℕ → ℤ × ℤ
displacement_of [] = (pos 0, pos 0)
displacement_of (value ∷ values) = let rest = displacement_of values in
    ((movement_of value).0 +ℤ rest.0, (movement_of value).1 +ℤ rest.1)

-- the cell after each value, from a start: none at an absence, else the last cell moved by the value's movement
unfoldable pub cells_along : Cell → List ℕ → List (Option Cell)
cells_along cell [] = []
cells_along cell (zero ∷ values) = None ∷ cells_along cell values
cells_along cell (suc code ∷ values) =
    Some (moved cell (move_of code)) ∷ cells_along (moved cell (move_of code)) values

-- the cells in which an object is present
abbrev pub present_in : List (Option Cell) → List Cell
present_in cells = flat_map option_to_list cells

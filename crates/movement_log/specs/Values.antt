-- What a log has for an instant at which its object has a row, or none.
use Rattle.std.specs.Prelude.{ℕ, suc, ℤ, ◌-ℤ◌, Bool, ◌&&◌, ◌==◌, List, find, reverse, Option, Some, None}
use Rattle.std.specs.Int.Signed.{lt_z}
use Rattle.spiral_code.specs.Spiral.{code_of}
use Rattle.track_types.specs.ByFilter.{cell_at}
use Rattle.track_types.specs.declared.cell.Cell.{Cell}
use Rattle.track_types.specs.declared.row.Row.{Row}

-- whether a row is of this object and before this instant
abbrev pub is_before : ℕ → ℤ → Row → Bool
is_before object instant row = (row.object == object) && lt_z row.instant instant

-- the last row of an object before an instant
abbrev pub last_before : List Row → ℕ → ℤ → Option Row
last_before rows object instant = find (is_before object instant) (reverse rows)

-- the value of a movement from one cell to another: its code and one
abbrev pub move_value : Cell → Cell → ℕ
move_value from to = suc (code_of (to.x -ℤ from.x) (to.y -ℤ from.y))

-- the value of an object's row at an instant: the movement from the cell of its last row before
abbrev pub present_value : Option Row → Cell → ℕ
present_value None cell = move_value cell cell
present_value (Some before) cell = move_value before.cell cell

-- the value of an object at an instant: 0 where it has no row there, and is absent
abbrev pub value_with : Option Row → Option Cell → ℕ
value_with before None = 0
value_with before (Some cell) = present_value before cell

-- the value of an object at an instant, among rows
unfoldable pub value_at : List Row → ℕ → ℤ → ℕ
value_at rows object instant = value_with (last_before rows object instant) (cell_at rows object instant)

-- An instant and a cell in one number of 64 bits, counted from an origin.
use Rattle.std.specs.Prelude.{ℕ, ◌*◌, ◌/◌, ◌%◌, ℤ, pos, ◌+ℤ◌}
use Rattle.track_types.specs.declared.cell.Cell.{Cell}
use Rattle.track_types.specs.declared.row.Row.{Row}
use Rattle.gridding.specs.Origin.{IsOneOf}
use Rattle.gridding.specs.declared.packed_place.Origin.{Origin}
use Rattle.gridding.specs.declared.packed_place.PackedPlace.{PackedPlace}
use Rattle.gridding.specs.declared.packed_place.TheConstants.{CELLS, INSTANTS}

-- a row is so near to an origin that its place has room in 64 bits
pub record HasPlace (origin : Origin) (row : Row) : Type 0 where
  pub instant : IsOneOf origin.instant INSTANTS row.instant
  pub x : IsOneOf origin.cell.x CELLS row.cell.x
  pub y : IsOneOf origin.cell.y CELLS row.cell.y

-- how many instants a place is after its origin's
unfoldable pub elapsed_of : PackedPlace → ℕ
elapsed_of place = place.bits / (CELLS * CELLS)

module _ (origin : Origin) where
  -- the instant of a place
  abbrev pub instant_of : PackedPlace → ℤ
  instant_of place = origin.instant +ℤ pos (elapsed_of place)

  -- the cell of a place
  unfoldable pub packed_cell : PackedPlace → Cell
  packed_cell place = record {
    x = origin.cell.x +ℤ pos (place.bits / CELLS % CELLS);
    y = origin.cell.y +ℤ pos (place.bits % CELLS);
  }

  -- the row of an object at a place
  abbrev pub packed_row : ℕ → PackedPlace → Row
  packed_row object place = record { object = object; instant = instant_of place; cell = packed_cell place }

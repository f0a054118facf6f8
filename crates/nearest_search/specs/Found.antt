-- How near the objects of blocks are.
use Rattle.std.specs.Prelude.{ℕ, ℤ, Option, slice_index}
use Rattle.std.specs.Option.{option_map}
use Rattle.track_types.specs.Region.{squared_distance}
use Rattle.track_types.specs.declared.cell.Cell.{Cell}
use Rattle.track_types.specs.declared.near.Near.{Near}
use Rattle.track_types.specs.declared.parts.Parts.{Parts}
use Rattle.log_cursor.specs.Seek.{cell_among}
use Rattle.snapshots.specs.Parts.{stops_of}
use Rattle.snapshots.specs.declared.anchored.Anchored.{Anchored}

-- how near an object in one cell is to another cell
abbrev pub near_with : Cell → ℕ → Cell → Near
near_with cell object found = record { object = object; cell = found; dist2 = squared_distance cell found }

-- how near the object of a block of a period is to a cell at an instant, if it is present then
unfoldable pub near_in : Parts → ℕ → ℤ → Cell → Anchored → Option Near
near_in parts number instant cell block =
    option_map (near_with cell (slice_index parts.objects block.index)) (cell_among (stops_of parts number block) instant)

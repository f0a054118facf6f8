-- How near a cell is to what is within reach of a square, as the search judges it.
use Rattle.std.specs.Prelude.{ℕ, ◌-◌, ◌^◌, ℤ, max, min}
use Rattle.track_types.specs.Widening.{widened}
use Rattle.track_types.specs.declared.cell.Cell.{Cell}
use Rattle.track_types.specs.declared.cell_box.CellBox.{CellBox}
use Rattle.track_types.specs.declared.parts.Parts.{Parts}
use Rattle.snapshots.specs.Speed.{width_at}
use Rattle.nearest_search.specs.Cost.{box_dist2}

-- what waits by a box and by what is within reach of a square: the greater of the two least squared distances
unfoldable pub queue_key : Cell → ℕ → CellBox → CellBox → ℕ
queue_key cell width area square = max (box_dist2 cell area) (box_dist2 cell (widened width square))

-- how far an object gets from its anchor's cell by an instant, or the greatest number of 64 bits where that is less
abbrev pub width_in_64_bits : Parts → ℕ → ℤ → ℕ
width_in_64_bits parts number instant = min (width_at parts number instant) (2 ^ 64 - 1)

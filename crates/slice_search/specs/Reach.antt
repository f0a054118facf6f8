-- Whether a region is within reach of a box, by the cells of an index's grid alone.
use Rattle.std.specs.Prelude.{ℕ, ℤ, min, Bool, ◌&&◌}
use Rattle.track_types.specs.Boxes.{cut_box, touches}
use Rattle.track_types.specs.Frame.{grid_of}
use Rattle.track_types.specs.Region.{intersects_region}
use Rattle.track_types.specs.Widening.{widened}
use Rattle.track_types.specs.declared.cell_box.CellBox.{CellBox}
use Rattle.track_types.specs.declared.limit.TheConstants.{MAX_REACH}
use Rattle.track_types.specs.declared.parts.Parts.{Parts}
use Rattle.track_types.specs.declared.region.Region.{Region}
use Rattle.snapshots.specs.Speed.{width_at}

-- whether a region has a cell of a grid in a widened box
unfoldable pub may_reach : Region → CellBox → ℕ → CellBox → Bool
may_reach region grid width area =
    touches grid (widened width area) && intersects_region region (cut_box grid (widened width area))

-- how far an object gets from its anchor's cell by an instant, or `MAX_REACH` where that is less
abbrev pub short_width : Parts → ℕ → ℤ → ℕ
short_width parts number instant = min (width_at parts number instant) MAX_REACH

-- whether an object with its anchor in a box of a period may be in a region at an instant, as the search judges it
abbrev pub may_reach_in : Parts → ℕ → ℤ → Region → CellBox → Bool
may_reach_in parts number instant region area =
    may_reach region (grid_of parts.frame) (short_width parts number instant) area

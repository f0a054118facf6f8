-- The least and the greatest of the numbers of rows.
use Rattle.std.specs.Prelude.{◌≡◌, ◌^◌, ◌-◌, ℤ, pos, negsuc, List, fold, map}
use Rattle.std.specs.Int.{int_max, int_min}
use Rattle.track_types.specs.Near.{IsNear}
use Rattle.track_types.specs.Quantities.{columns_of, greatest, instants_of, least, lines_of}
use Rattle.track_types.specs.declared.row.Row.{Row}
use Rattle.track_types.specs.declared.extents.Extent.{Extent}
use Rattle.track_types.specs.declared.extents.Extents.{Extents}

-- an extent, widened so that a number is in it
abbrev pub widened : Extent → ℤ → Extent
widened extent number = record { least = int_min extent.least number; greatest = int_max extent.greatest number }

-- the extent of no numbers, from the greatest number of a word to the least: widened by a first number it is that number alone
abbrev pub no_extent : Extent
no_extent = record { least = pos (2 ^ 63 - 1); greatest = negsuc (2 ^ 63 - 1) }

-- the extent of numbers
abbrev pub extent_over : List ℤ → Extent
extent_over = fold widened no_extent

-- the extents of rows that are looked at one by one
abbrev pub extents_over : List Row → Extents
extents_over rows = record {
  time = extent_over (instants_of rows);
  columns = extent_over (columns_of rows);
  lines = extent_over (lines_of rows);
}

-- the extent of a number of each row
pub record IsExtentOf (number : Row → ℤ) (rows : List Row) (extent : Extent) : Type 0 where
  pub near_least : IsNear extent.least
  pub near_greatest : IsNear extent.greatest
  pub least : extent.least ≡ least (map number rows)
  pub greatest : extent.greatest ≡ greatest (map number rows)

-- the extents of some rows in range
pub record AreExtentsOf (rows : List Row) (extents : Extents) : Type 0 where
  pub time : IsExtentOf (λ row. row.instant) rows extents.time
  pub columns : IsExtentOf (λ row. row.cell.x) rows extents.columns
  pub lines : IsExtentOf (λ row. row.cell.y) rows extents.lines

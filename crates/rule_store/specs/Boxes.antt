-- The least box round cells.
use Rattle.std.specs.Prelude.{ℕ, ℤ, pos, ◌≤ℤ◌, List, [], ◌∷◌, map, Option, Some, None, fold}
use Rattle.std.specs.Int.{int_max, int_min}
use Rattle.std.proofs.Common.{arith, refl}
use Rattle.std.proofs.lemmas.Int.{ints, fold-int_max_bounds, fold-int_min_bounds}
use Rattle.track_types.specs.Quantities.{greatest, least}
use Rattle.track_types.specs.declared.cell.Cell.{Cell}
use Rattle.track_types.specs.declared.cell_box.CellBox.{CellBox}
use Rattle.rule_store.specs.Cells.{cell_with, cells_along, present_in}

-- the least of some numbers is at most the greatest
pub least-greatest : (z : ℤ) (zs : List ℤ) → least (z ∷ zs) ≤ℤ greatest (z ∷ zs)
least-greatest z zs =
    let low : least (z ∷ zs) ≤ℤ z = (fold-int_min_bounds z zs (fold int_min z zs) refl).0 in
    let high : z ≤ℤ greatest (z ∷ zs) = (fold-int_max_bounds z zs (fold int_max z zs) refl).0 in
    omega (arith, ints)

-- the column of a cell
abbrev pub column : Cell → ℤ
column cell = cell.x

-- the line of a cell
abbrev pub line : Cell → ℤ
line cell = cell.y

-- the least box round cells; round no cells there is none
unfoldable pub box_round : List Cell → Option CellBox
box_round [] = None
box_round (cell ∷ cells) = Some (record {
  x1 = least (map column (cell ∷ cells));
  y1 = least (map line (cell ∷ cells));
  x2 = greatest (map column (cell ∷ cells));
  y2 = greatest (map line (cell ∷ cells));
  wide = least-greatest cell.x (map column cells);
  high = least-greatest cell.y (map line cells);
})

-- the cell at (0, 0)
abbrev pub origin : Cell
origin = cell_with (pos 0) (pos 0)

-- the least box round the cells in which an object is present, from a start at (0, 0) that is not itself counted
unfoldable pub bounding_box_of : List ℕ → Option CellBox
bounding_box_of values = box_round (present_in (cells_along origin values))

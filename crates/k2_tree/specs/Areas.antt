-- The boxes of cells that squares of the grid are.
use Rattle.std.specs.Prelude.{◌*◌, ◌-◌, ◌^◌, pos, ◌+ℤ◌, ◌≤ℤ◌}
use Rattle.track_types.specs.Boxes.{box_from}
use Rattle.track_types.specs.declared.cell.Cell.{Cell}
use Rattle.track_types.specs.declared.cell_box.CellBox.{CellBox}
use Rattle.track_types.specs.declared.limit.TheConstants.{MAX_HEIGHT}
use Rattle.k2_tree.specs.Morton.{morton_column, morton_row}
use Rattle.k2_tree.specs.Widths.{side}
use Rattle.k2_tree.specs.Squares.{Node}

-- one box lies within another
pub record IsBoxInside (inner outer : CellBox) : Type 0 where
  pub left : outer.x1 ≤ℤ inner.x1
  pub right : inner.x2 ≤ℤ outer.x2
  pub below : outer.y1 ≤ℤ inner.y1
  pub above : inner.y2 ≤ℤ outer.y2

-- the cells of a square, in a grid from the base
abbrev pub area_at : Cell → Node → CellBox
area_at base square = box_from
    (base.x +ℤ pos (morton_column MAX_HEIGHT square.prefix * side ^ square.level))
    (base.y +ℤ pos (morton_row MAX_HEIGHT square.prefix * side ^ square.level))
    (side ^ square.level - 1)

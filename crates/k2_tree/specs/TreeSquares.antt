-- A square as the code holds it: which one it is, its cells, and when it is one of a tree's.
use Rattle.std.specs.Prelude.{◌≡◌, ℕ, ◌+◌, ◌-◌, ◌*◌, Bool, Some, List, slice_get}
use Rattle.track_types.specs.declared.cell.Cell.{Cell}
use Rattle.track_types.specs.declared.cell_box.CellBox.{CellBox}
use Rattle.track_types.specs.declared.limit.TheConstants.{MAX_HEIGHT}
use Rattle.k2_tree.specs.Morton.{interleaved}
use Rattle.k2_tree.specs.Widths.{fan_of, width_below}
use Rattle.k2_tree.specs.TreeBits.{is_in, prefixes}
use Rattle.k2_tree.specs.Squares.{Node, node, squares_from}
use Rattle.k2_tree.specs.Areas.{area_at}
use Rattle.k2_tree.specs.Tree.{Tree, codes_of, tree_widths}
use Rattle.k2_tree.specs.declared.square.Square.{Square}

-- how many digits to base 4 of its cells' Morton numbers are dropped
abbrev pub level_of : Square → ℕ
level_of square = square.level

-- the prefix of these numbers that is left
abbrev pub prefix_of : Square → ℕ
prefix_of square = interleaved MAX_HEIGHT square.row square.column

-- a square's number among the squares that hold a cell
abbrev pub square_number : Square → ℕ
square_number square = square.number

-- which square it is
abbrev pub node_of : Square → Node
node_of square = node square.level (prefix_of square)

-- the cells of a square
abbrev pub area_of : Square → CellBox
area_of square = area_at square.base (node_of square)

-- the least cell of a square
abbrev pub least_cell_of : Square → Cell
least_cell_of square = record { x = (area_of square).x1; y = (area_of square).y1 }

-- the squares of a tree that hold a cell, level by level from the top
abbrev pub squares_of : Tree → List Node
squares_of tree = squares_from (tree_widths tree) (codes_of tree)

-- the square is one of the tree's: it holds a cell, and its number is its place among those that do
pub record IsSquareOf (tree : Tree) (square : Square) : Type 0 where
  pub base : square.base ≡ tree.base
  pub stands : slice_get (squares_of tree) square.number ≡ Some (node_of square)

-- the width of the level below a square of a tree
abbrev pub node_width : Tree → Node → ℕ
node_width tree square = width_below (tree.height - 2 * tree.wide) square.level

-- a child of a square by a level of this width, whether it holds a cell or not
abbrev pub child_at : ℕ → Node → ℕ → Node
child_at width square digit = node (square.level - width) (fan_of width * square.prefix + digit)

-- whether a square holds a cell of the tree
abbrev pub holds_cell : Tree → Node → Bool
holds_cell tree square = is_in (prefixes square.level (codes_of tree)) square.prefix

-- Squares that are still to be visited, the next one first.
use Rattle.std.specs.Prelude.{◌≡◌, ℕ, ◌+◌, ◌-◌, ◌≤◌, Bool, is_none, List, [], ◌∷◌, ◌++◌}
use Rattle.std.specs.Prelude.{length, map, slice_get, Option, None, Some, ⊤}
use Rattle.track_types.specs.declared.cell.Cell.{Cell}
use Rattle.track_types.specs.declared.limit.TheConstants.{MAX_HEIGHT}
use Rattle.k2_tree.specs.TreeBits.{prefixes}
use Rattle.k2_tree.specs.Squares.{Node, node}
use Rattle.k2_tree.specs.Tree.{Tree, codes_of}
use Rattle.k2_tree.specs.TreeSquares.{level_of, node_of, square_number, squares_of, IsSquareOf}
use Rattle.k2_tree.specs.PendingChildren.{nodes_of, StandsAt}
use Rattle.k2_tree.specs.declared.square.Square.{Square}
use Rattle.k2_tree.specs.declared.pending_children.PendingChildren.{PendingChildren}

-- a tree, its squares that are still to be visited, whether the whole grid was visited, and how many squares are open
pub record SquareWalkView : Type 0 where
  pub tree : Tree
  pub pending : List Node
  pub begun : Bool
  pub depth : ℕ

-- the square of the whole grid, where it holds a cell
abbrev pub top_nodes : Tree → List Node
top_nodes tree = map (node tree.height) (prefixes tree.height (codes_of tree))

-- the square, if there is one
abbrev pub found_nodes : Option Square → List Node
found_nodes None = []
found_nodes (Some square) = node_of square ∷ []

-- the children of open squares that are still to be visited, those of the square opened last first
unfoldable pub open_nodes : List PendingChildren → List Node
open_nodes [] = []
open_nodes (pending ∷ later) = open_nodes later ++ nodes_of pending

-- the view of a walk: the whole grid, where it is still to be visited, and then the children of open squares
abbrev pub square_walk_of : Tree → Option Square → List PendingChildren → SquareWalkView
square_walk_of tree whole stack = record {
  tree = tree;
  pending = found_nodes whole ++ open_nodes stack;
  begun = is_none whole;
  depth = length stack;
}

-- an open square is of this level or of one below it, and its pending children stand among the squares
pub record IsOpen (squares : List Node) (base : Cell) (level : ℕ) (pending : PendingChildren) : Type 0 where
  pub high : level_of pending.square ≤ level
  pub same : pending.square.base ≡ base
  pub stands : StandsAt squares pending.number (nodes_of pending)

-- all open squares are so, each of a lower level than the one before
abbrev pub AreOpen : List Node → Cell → ℕ → List PendingChildren → Type 0
AreOpen squares base level [] = Unit {0}
AreOpen squares base level (pending ∷ later) =
    IsOpen squares base level pending × AreOpen squares base (level - 1) later

-- the square is a child that stands among the squares, and was taken from the square opened last
pub record IsTakenChild (squares : List Node) (base : Cell) (level : ℕ) (square : Square)
    (stack : List PendingChildren) : Type 0 where
  pub same : square.base ≡ base
  pub stands : slice_get squares (square_number square) ≡ Some (node_of square)
  pub depth : level_of square + length stack ≤ level
  pub rest : AreOpen squares base level stack

-- where the whole grid is still to be visited, nothing is open yet
abbrev pub IsWhole : Tree → Option Square → List PendingChildren → Type 0
IsWhole tree None stack = ⊤
IsWhole tree (Some square) stack = (stack ≡ []) × (level_of square ≡ tree.height) × IsSquareOf tree square

-- the parts of a walk belong together
pub record IsSquareWalk (tree : Tree) (whole : Option Square) (stack : List PendingChildren) : Type 0 where
  pub low : tree.height ≤ MAX_HEIGHT
  pub first : IsWhole tree whole stack
  pub later : AreOpen (squares_of tree) tree.base tree.height stack

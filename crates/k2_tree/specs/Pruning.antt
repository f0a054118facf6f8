-- The leaves all of whose squares pass a test, and how many squares do.
use Rattle.std.specs.Prelude.{◌≡◌, ℕ, ◌+◌, ◌-◌, ◌/◌, ◌^◌, Bool, nat_lt, if◌then◌else◌, IsTrue}
use Rattle.std.specs.Prelude.{Some, slice_get, List, [], ◌∷◌, length, map, filter}
use Rattle.std.specs.List.{enumerate_from, flat_map, list_all, sum_by}
use Rattle.track_types.specs.declared.cell.Cell.{Cell}
use Rattle.track_types.specs.declared.cell_box.CellBox.{CellBox}
use Rattle.track_types.specs.Near.{IsBoxWithin}
use Rattle.track_types.specs.Region.{in_box}
use Rattle.k2_tree.specs.Morton.{morton_of, cell_of}
use Rattle.k2_tree.specs.Widths.{digits_in, fan, fan_of}
use Rattle.k2_tree.specs.TreeBits.{is_in, children_of_prefixes, prefixes}
use Rattle.k2_tree.specs.Squares.{Node, node}
use Rattle.k2_tree.specs.Areas.{area_at}
use Rattle.k2_tree.specs.Tree.{Tree, codes_of, tree_widths}
use Rattle.k2_tree.specs.TreeSquares.{squares_of, node_width}

-- how many of the numbers are below one, which is its place among ascending ones
abbrev pub place_among : List ℕ → ℕ → ℕ
place_among codes code = length (filter (λ other. nat_lt other code) codes)

-- a leaf by its Morton number: its own number, and its cell
abbrev pub leaf_with : ℕ → Cell → List ℕ → ℕ → ℕ × Cell
leaf_with height base codes code = (place_among codes code, cell_of height base code)

-- the leaf of a tree with this Morton number
abbrev pub leaf_of : Tree → ℕ → ℕ × Cell
leaf_of tree code = leaf_with tree.height tree.base (codes_of tree) code

-- the tree has this leaf, with its cell
abbrev pub IsLeafOf : Tree → ℕ × Cell → Type 0
IsLeafOf tree leaf = slice_get tree.cells leaf.0 ≡ Some leaf.1

-- how many digits the prefixes of the top drop, and those of each of these levels down to the cells
unfoldable pub digits_left : List ℕ → List ℕ
digits_left [] = 0 ∷ []
digits_left (width ∷ widths) = (width + digits_in widths) ∷ digits_left widths

-- whether a test is true on each square that holds a Morton number, from the one above these levels down to its own
unfoldable pub passes : (Node → Bool) → List ℕ → ℕ → Bool
passes test widths code = list_all (λ level. test (node level (code / fan ^ level))) (digits_left widths)

-- a test of boxes as one of the tree's squares
abbrev pub on_areas : (CellBox → Bool) → Tree → Node → Bool
on_areas keep tree square = keep (area_at tree.base square)

-- whether a test is true on each square of a tree from the whole grid to this cell
unfoldable pub passes_at : (CellBox → Bool) → Tree → Cell → Bool
passes_at keep tree cell = passes (on_areas keep tree) (tree_widths tree) (morton_of tree.height tree.base cell)

-- a tree's leaves: its cells with their numbers
abbrev pub leaves_of : Tree → List (ℕ × Cell)
leaves_of tree = enumerate_from 0 tree.cells

-- the leaves for which a test is true on each square from the whole grid to the cell
abbrev pub kept_leaves : (CellBox → Bool) → Tree → List (ℕ × Cell)
kept_leaves keep tree = filter (λ leaf. passes_at keep tree leaf.1) (leaves_of tree)

-- the test keeps each box near 0 in which a wanted cell lies
abbrev pub IsKeptFor : (CellBox → Bool) → (Cell → Bool) → Type 0
IsKeptFor keep wanted = (area : CellBox) (cell : Cell)
    → IsBoxWithin area → IsTrue (in_box area cell) → IsTrue (wanted cell) → IsTrue (keep area)

-- a test keeps each box near 0 that another keeps
abbrev pub IsWeaker : (CellBox → Bool) → (CellBox → Bool) → Type 0
IsWeaker weak strong = (area : CellBox) → IsBoxWithin area → IsTrue (strong area) → IsTrue (weak area)

-- the leaves whose cells are wanted
abbrev pub wanted_of : (Cell → Bool) → List (ℕ × Cell) → List (ℕ × Cell)
wanted_of wanted leaves = filter (λ leaf. wanted leaf.1) leaves

-- how many squares that hold a cell, the whole grid and the cells among them, pass a test
abbrev pub square_count : (CellBox → Bool) → Tree → ℕ
square_count keep tree = length (filter (on_areas keep tree) (squares_of tree))

-- the children that hold a number of the square with this prefix: a level of this width, with n digits below it
unfoldable pub child_prefixes : ℕ → ℕ → List ℕ → ℕ → List ℕ
child_prefixes width n codes prefix = filter (is_in (prefixes n codes)) (children_of_prefixes (fan_of width) (prefix ∷ []))

-- the children that hold a cell of a square of a tree
abbrev pub child_nodes : Tree → Node → List Node
child_nodes tree square =
    map (node (square.level - node_width tree square))
    (child_prefixes (node_width tree square) (square.level - node_width tree square) (codes_of tree) square.prefix)

-- the numbers below a square with levels of these widths for which a test is true on each square from this one down
unfoldable pub kept_below : (Node → Bool) → List ℕ → List ℕ → ℕ → List ℕ
kept_below test codes [] prefix = if test (node 0 prefix) then prefix ∷ [] else []
kept_below test codes (width ∷ widths) prefix =
    if test (node (width + digits_in widths) prefix)
    then flat_map (kept_below test codes widths) (child_prefixes width (digits_in widths) codes prefix) else []

-- the weights of a square and of all squares below it together
unfoldable pub weight_below : (Node → ℕ) → List ℕ → List ℕ → ℕ → ℕ
weight_below weight codes [] prefix = weight (node 0 prefix)
weight_below weight codes (width ∷ widths) prefix =
    weight (node (width + digits_in widths) prefix)
    + sum_by (weight_below weight codes widths) (child_prefixes width (digits_in widths) codes prefix)

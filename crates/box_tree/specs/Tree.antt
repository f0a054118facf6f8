-- A tree of boxes: its places, and the nodes over them.
use Rattle.std.specs.Prelude.{◌≡◌, ℕ, zero, suc, ◌+◌, ◌-◌, ◌*◌, ◌^◌, ◌<◌, ◌≤◌, nat_lt, if◌then◌else◌, List, [], ◌∷◌}
use Rattle.std.specs.Prelude.{length, map, All}
use Rattle.track_types.specs.declared.cell_box.CellBox.{CellBox}
use Rattle.track_types.specs.declared.limit.TheConstants.{MAX_HEIGHT}
use Rattle.track_types.specs.declared.cell.Cell.{Cell}
use Rattle.k2_tree.specs.Morton.{IsBase, interleaved}
use Rattle.k2_tree.specs.Squares.{Node, node}
use Rattle.box_tree.specs.Levels.{digits}
use Rattle.box_tree.specs.Places.{Places, Square, square_with, ArePlaces}
use Rattle.box_tree.specs.Held.{Nodes, Held}
use Rattle.box_tree.specs.declared.node_ref.NodeRef.{NodeRef}
use Rattle.box_tree.specs.declared.node_ref.TheConstants.{SLOTS}

-- so many levels: so many lowest ones take one digit each, and the others two
unfoldable pub levels_below : ℕ → ℕ → List ℕ
levels_below narrow zero = []
levels_below narrow (suc below) = (if nat_lt below narrow then 1 else 2) ∷ levels_below narrow below

-- a tree: the grid's least cell, how many levels take one digit, the places, and the nodes over them
pub record TreeView : Type 0 where
  pub base : Cell
  pub narrow : ℕ
  pub places : Places
  pub nodes : Nodes

-- the Morton number of the cell at a column and a row
abbrev pub code_at : ℕ × ℕ → ℕ
code_at cell = interleaved MAX_HEIGHT cell.1 cell.0

-- the tree of these parts
abbrev pub box_tree_of : Cell → ℕ → ℕ → List (ℕ × ℕ) → List CellBox → List CellBox → List (ℕ × ℕ) → TreeView
box_tree_of base height narrow cells boxes areas links = record {
  base = base;
  narrow = narrow;
  places = record { levels = levels_below narrow height; codes = map code_at cells; boxes = boxes };
  nodes = record { areas = areas; links = links };
}

-- how many nodes wait at most at a time, where a square with these levels is opened
abbrev pub slots : List ℕ → ℕ
slots [] = 0
slots (level ∷ levels) = (4 ^ level - 1) + slots levels

-- how many children a square with these levels has at most
abbrev pub child_limit : List ℕ → ℕ
child_limit [] = 0
child_limit (level ∷ levels) = 4 ^ level

-- levels, the lowest of one digit and the others of two, and the digits of all of them
pub record AreLevels (height narrow all : ℕ) : Type 0 where
  pub digits_are : digits (levels_below narrow height) ≡ all
  pub few : all ≤ MAX_HEIGHT
  pub room : slots (levels_below narrow height) < SLOTS

-- places with these numbers and boxes
abbrev pub places_with : ℕ → ℕ → List ℕ → List CellBox → Places
places_with height narrow codes boxes = record { levels = levels_below narrow height; codes = codes; boxes = boxes }

-- the square of the whole grid
abbrev pub whole : TreeView → Square
whole tree = square_with tree.places.levels 0

-- which square of the grid that is
abbrev pub grid_node : TreeView → Node
grid_node tree = node (digits tree.places.levels) 0

-- the levels below a node
abbrev pub levels_of : ℕ → NodeRef → List ℕ
levels_of narrow ref = levels_below narrow ref.below

-- the prefix of the Morton numbers of a node's cells
abbrev pub node_prefix : NodeRef → ℕ
node_prefix ref = code_at (ref.column, ref.row)

-- the square of a node
abbrev pub node_square : ℕ → NodeRef → Square
node_square narrow ref = square_with (levels_of narrow ref) (node_prefix ref)

-- which square of the grid that is
abbrev pub node_at : NodeRef → Node
node_at ref = node ref.level (node_prefix ref)

-- the node is one of the tree's
pub record IsNodeOf (tree : TreeView) (ref : NodeRef) : Type 0 where
  pub level : digits (levels_of tree.narrow ref) ≡ ref.level
  pub deep : ref.level ≤ MAX_HEIGHT
  pub right : (ref.column + 1) * 2 ^ ref.level ≤ 2 ^ MAX_HEIGHT
  pub upper : (ref.row + 1) * 2 ^ ref.level ≤ 2 ^ MAX_HEIGHT
  pub held : Held tree.places tree.nodes (levels_of tree.narrow ref) (node_prefix ref) ref.node

-- columns and rows of the greatest grid
abbrev pub AreCells : List (ℕ × ℕ) → Type 0
AreCells cells = All (λ cell. (cell.0 < 2 ^ MAX_HEIGHT) × (cell.1 < 2 ^ MAX_HEIGHT)) cells

-- what holds of every tree
pub record IsBoxTree (all : ℕ) (tree : TreeView) : Type 0 where
  pub grid : IsBase tree.base
  pub places_are : ArePlaces tree.places
  pub digits_are : digits tree.places.levels ≡ all
  pub few : all ≤ MAX_HEIGHT
  pub room : slots tree.places.levels < SLOTS
  pub held : 0 < length tree.places.codes → Held tree.places tree.nodes tree.places.levels 0 0

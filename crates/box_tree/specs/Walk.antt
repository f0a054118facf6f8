-- What is left of a walk over the nodes of a tree.
use Rattle.std.specs.Prelude.{◌≡◌, ℕ, ◌+◌, ◌-◌, ◌*◌, ◌^◌, ◌<◌, ◌≤◌, Bool, true, List, [], ◌∷◌, ◌++◌, length, map}
use Rattle.std.specs.Prelude.{filter, reverse, All, Option, option_to_list}
use Rattle.std.specs.List.{flat_map, range_with_len, sum_by}
use Rattle.k2_tree.specs.Squares.{Node, node}
use Rattle.box_tree.specs.Levels.{digits, squares_in}
use Rattle.box_tree.specs.Places.{Places, Square, ArePlaces, square_worth, place_passes, square_places, square_with}
use Rattle.box_tree.specs.Tests.{Tests}
use Rattle.box_tree.specs.Cost.{node_reads, place_reads}
use Rattle.box_tree.specs.Tree.{TreeView, IsNodeOf, child_limit, levels_of, node_at, node_square, slots}
use Rattle.box_tree.specs.declared.node_ref.NodeRef.{NodeRef}
use Rattle.box_tree.specs.declared.node_ref.TheConstants.{SLOTS}
use Rattle.k2_tree.specs.Morton.{IsBase, morton_column, morton_row}

-- a tree, the squares that are still to be visited, the next one first, the places that are left of an open bucket, and
-- how many nodes wait
pub record NodeWalkView : Type 0 where
  pub tree : TreeView
  pub pending : List Square
  pub low : ℕ
  pub high : ℕ
  pub depth : ℕ

-- the walk whose nodes wait on a stack
abbrev pub node_walk_of : TreeView → List NodeRef → ℕ → ℕ → NodeWalkView
node_walk_of tree stack low high = record {
  tree = tree;
  pending = map (node_square tree.narrow) (reverse stack);
  low = low;
  high = high;
  depth = length stack;
}

-- each waiting node leaves room for those that come in its place
abbrev pub Fits : ℕ → ℕ → List NodeRef → Type 0
Fits narrow total [] = Unit {0}
Fits narrow total (ref ∷ deeper) = (length deeper + slots (levels_of narrow ref) ≤ total) × Fits narrow total deeper

-- the parts of a walk belong together
pub record IsNodeWalk (tree : TreeView) (stack : List NodeRef) (low high : ℕ) : Type 0 where
  pub nodes : All (IsNodeOf tree) (reverse stack)
  pub fits : Fits tree.narrow (slots tree.places.levels) (reverse stack)
  pub few : slots tree.places.levels < SLOTS
  pub within : high ≤ length tree.places.codes
  pub are : ArePlaces tree.places
  pub near : IsBase tree.base

-- the places that are left
abbrev pub places_left : Tests → NodeWalkView → List ℕ
places_left tests walk = filter (place_passes tests walk.tree.places)
    (range_with_len walk.low (walk.high - walk.low) ++ flat_map (square_places walk.tree.places) walk.pending)

-- the reads that they are worth
abbrev pub walk_reads : (Node → Bool) → NodeWalkView → ℕ
walk_reads test walk = place_reads * (walk.high - walk.low) + sum_by (square_worth test walk.tree.places) walk.pending

-- how many squares are in one that is still to be visited
abbrev pub turns_in : Places → Square → ℕ
turns_in places square = squares_in (λ _. true) places.codes square.levels square.prefix

-- how many squares are in all that are still to be visited
abbrev pub walk_turns : NodeWalkView → ℕ
walk_turns walk = sum_by (turns_in walk.tree.places) walk.pending

-- the children of a node, one after another
abbrev pub child_refs : NodeRef → ℕ → ℕ → List ℕ → List NodeRef
child_refs parent width first [] = []
child_refs parent width first (digit ∷ digits) = record {
  node = first;
  below = parent.below - 1;
  level = parent.level - width;
  column = 2 ^ width * parent.column + morton_column width digit;
  row = 2 ^ width * parent.row + morton_row width digit;
} ∷ child_refs parent width (first + 1) digits

-- a node of a square was opened: its places are left too, and it has paid for itself
pub record OpensSquare (old new : NodeWalkView) (square : Square) : Type 0 where
  pub left : (tests : Tests) → places_left tests new
      ≡ filter (place_passes tests old.tree.places) (square_places old.tree.places square) ++ places_left tests old
  pub reads : (test : Node → Bool) → test (node (digits square.levels) square.prefix) ≡ true
      → walk_reads test new + node_reads ≤ walk_reads test old + square_worth test old.tree.places square
  pub turns : walk_turns new < walk_turns old + turns_in old.tree.places square

-- a node of a square was visited: its places that pass are left too, and it has paid for what was read
pub record IsVisited (tests : Tests) (old new : NodeWalkView) (square : Square) (begun steps : ℕ) : Type 0 where
  pub tree : new.tree ≡ old.tree
  pub left : places_left tests new
      ≡ filter (place_passes tests old.tree.places) (square_places old.tree.places square) ++ places_left tests old
  pub reads : steps + walk_reads tests.square new ≤ begun + walk_reads tests.square old
      + square_worth tests.square old.tree.places square
  pub turns : walk_turns new < walk_turns old + turns_in old.tree.places square

-- a bucket was gone through as far as its next place that passes
pub record IsScanned (tests : Tests) (old new : NodeWalkView) (found : Option ℕ) (begun steps : ℕ) : Type 0 where
  pub tree : new.tree ≡ old.tree
  pub pending : new.pending ≡ old.pending
  pub left : places_left tests old ≡ option_to_list found ++ places_left tests new
  pub reads : steps + walk_reads tests.square new ≤ begun + walk_reads tests.square old

-- A branch gave way to its children. They are nodes of the tree, one level lower, and their places are its places, in
-- order. The reads that a node is worth pay for theirs and for its own, and there are fewer squares in them.
pub record IsGivenWay (tree : TreeView) (parent : NodeRef) (old new : List NodeRef) : Type 0 where
  pub children : List NodeRef
  pub pushed : new ≡ children ++ old
  pub nodes : All (IsNodeOf tree) children
  pub few : length children ≤ child_limit (levels_of tree.narrow parent)
  pub places : square_places tree.places (node_square tree.narrow parent)
      ≡ flat_map (λ child. square_places tree.places (node_square tree.narrow child)) children
  pub levels : All (λ child. child.below + 1 ≡ parent.below) children
  pub reads : (test : Node → Bool) → test (node_at parent) ≡ true
      → sum_by (λ child. square_worth test tree.places (node_square tree.narrow child)) children + node_reads
      ≤ square_worth test tree.places (node_square tree.narrow parent)
  pub turns : sum_by (λ child. turns_in tree.places (node_square tree.narrow child)) children
      < turns_in tree.places (node_square tree.narrow parent)

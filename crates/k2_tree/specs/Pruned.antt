-- What is left of a walk over the leaves that pass a test, and what it may still read.
use Rattle.std.specs.Prelude.{ℕ, ◌-◌, ◌*◌, Bool, if◌then◌else◌, List, map}
use Rattle.std.specs.List.{flat_map, sum_by}
use Rattle.track_types.specs.declared.cell.Cell.{Cell}
use Rattle.track_types.specs.declared.cell_box.CellBox.{CellBox}
use Rattle.k2_tree.specs.Widths.{widths_under}
use Rattle.k2_tree.specs.Squares.{Node}
use Rattle.k2_tree.specs.Tree.{Tree, codes_of}
use Rattle.k2_tree.specs.SquareWalk.{SquareWalkView}
use Rattle.k2_tree.specs.Pruning.{kept_below, leaf_of, on_areas, weight_below}
use Rattle.k2_tree.specs.Cost.{child_reads}
use Rattle.k2_tree.specs.declared.pruned.Pruned.{Pruned}

-- the widths of the levels below a square
abbrev pub widths_at : Tree → Node → List ℕ
widths_at tree square = widths_under (tree.height - 2 * tree.wide) square.level

-- the numbers in a square for which a test is true on each square from this one down
abbrev pub kept_in : (Node → Bool) → Tree → Node → List ℕ
kept_in test tree square = kept_below test (codes_of tree) (widths_at tree square) square.prefix

-- the weights of a square and of all squares below it together
abbrev pub weight_in : (Node → ℕ) → Tree → Node → ℕ
weight_in weight tree square = weight_below weight (codes_of tree) (widths_at tree square) square.prefix

-- one window and one rank for each square that passes a test
abbrev pub reads_of : (Node → Bool) → Node → ℕ
reads_of test square = if test square then child_reads else 0

-- the leaves that are left, in the squares that are still to be visited
abbrev pub walk_left : (CellBox → Bool) → SquareWalkView → List (ℕ × Cell)
walk_left keep walk = map (leaf_of walk.tree) (flat_map (kept_in (on_areas keep walk.tree) walk.tree) walk.pending)

-- the reads that these squares and those below them are worth
abbrev pub walk_budget : (CellBox → Bool) → SquareWalkView → ℕ
walk_budget keep walk = sum_by (weight_in (reads_of (on_areas keep walk.tree)) walk.tree) walk.pending

-- the tree of a pruned walk
abbrev pub pruned_tree : {F : Type 0} → Pruned F → Tree
pruned_tree pruned = pruned.walk.tree

module _ {F : Type 0} (keeps : F → CellBox → Bool) where
  -- the leaves that are left of a pruned walk
  abbrev pub pruned_left : Pruned F → List (ℕ × Cell)
  pruned_left pruned = walk_left (keeps pruned.keep) pruned.walk

  -- the budget of reads of a pruned walk
  abbrev pub pruned_budget : Pruned F → ℕ
  pruned_budget pruned = walk_budget (keeps pruned.keep) pruned.walk

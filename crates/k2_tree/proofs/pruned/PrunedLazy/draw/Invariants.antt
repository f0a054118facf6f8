use Rattle.std.proofs.Common.{◌≡◌, ℕ, ◌+◌, ◌≤◌, Bool}
use Rattle.track_types.specs.declared.cell_box.CellBox.{CellBox}
use Rattle.k2_tree.specs.SquareWalk.{SquareWalkView}
use Rattle.k2_tree.specs.Pruned.{walk_budget, walk_left}
use Rattle.k2_tree.proofs.PrunedLemmas.{turns_of}
use Rattle.k2_tree.proofs.pruned.PrunedLazy.draw.Given as goal

-- what squares that were skipped or opened leave: the same leaves, and the reads from the budget
pub record IsDrawing (keep : CellBox → Bool) (first now : SquareWalkView) (begun steps : ℕ) : Type 0 where
  pub same : now.tree ≡ first.tree
  pub left : walk_left keep now ≡ walk_left keep first
  pub cost : steps + walk_budget keep now ≤ begun + walk_budget keep first

abbrev pub invariant-loop-square : goal.invariant-loop-square
invariant-loop-square g l =
    (l.self.keep ≡ l.fn.self.keep)
    × IsDrawing (g.F.Keep.keeps l.fn.self.keep) l.fn.self.walk l.self.walk l.fn.steps l.steps

abbrev pub decreases-loop-square : goal.decreases-loop-square
decreases-loop-square g l = turns_of l.self.walk

use Rattle.std.proofs.Common.{◌≡◌, ℕ, ◌≤◌, List, length}
use Rattle.track_types.specs.declared.cell.Cell.{Cell}
use Rattle.track_types.specs.declared.limit.TheConstants.{MAX_HEIGHT}
use Rattle.k2_tree.specs.Squares.{Node}
use Rattle.k2_tree.specs.SquareWalk.{AreOpen, open_nodes}
use Rattle.k2_tree.specs.declared.pending_children.PendingChildren.{PendingChildren}
use Rattle.k2_tree.proofs.square_walk.next_child.Given as goal

-- what is left of a stack after squares with nothing pending were taken away
pub record IsLeft (first stack : List PendingChildren) : Type 0 where
  pub fits : length stack ≤ MAX_HEIGHT
  pub nodes : open_nodes stack ≡ open_nodes first
  pub are : (squares : List Node) (base : Cell) (level : ℕ)
      → AreOpen squares base level first → AreOpen squares base level stack

abbrev pub invariant-loop-pending : goal.invariant-loop-pending
invariant-loop-pending l = IsLeft l.fn.stack.items l.stack.items

abbrev pub decreases-loop-pending : goal.decreases-loop-pending
decreases-loop-pending l = length l.stack.items

use Rattle.std.proofs.Common.{◌≡◌, ◌+◌, ◌≤◌, ◌++◌, List, length, map, All}
use Rattle.k2_tree.specs.Areas.{IsBoxInside}
use Rattle.k2_tree.specs.Tree.{Tree}
use Rattle.k2_tree.specs.TreeSquares.{area_of, node_of, squares_of, IsSquareOf}
use Rattle.k2_tree.specs.PendingChildren.{nodes_of, StandsAt}
use Rattle.k2_tree.specs.Pruning.{child_nodes}
use Rattle.k2_tree.specs.declared.square.Square.{Square}
use Rattle.k2_tree.specs.declared.pending_children.PendingChildren.{PendingChildren}
use Rattle.k2_tree.proofs.tree.K2Tree.children.Given as goal

-- some of a square's children were taken, and the others are pending
pub record AreTaken (tree : Tree) (square : Square) (children : List Square) (pending : PendingChildren) : Type 0 where
  pub same : pending.square ≡ square
  pub nodes : map node_of children ++ nodes_of pending ≡ child_nodes tree (node_of square)
  pub found : All (IsSquareOf tree) children
  pub inside : All (λ child. IsBoxInside (area_of child) (area_of square)) children
  pub stands : StandsAt (squares_of tree) pending.number (nodes_of pending)
  pub room : length children + length (nodes_of pending) ≤ 16

abbrev pub invariant-loop-child : goal.invariant-loop-child
invariant-loop-child g l = AreTaken l.initial.self l.initial.square l.children.items l.pending

abbrev pub decreases-loop-child : goal.decreases-loop-child
decreases-loop-child g l = length (nodes_of l.pending)

-- The children of a square that are still to be visited.
use Rattle.std.specs.Prelude.{◌≡◌, ℕ, suc, ◌+◌, Some, List, [], ◌∷◌, map, slice_get}
use Rattle.k2_tree.specs.Widths.{fan_of}
use Rattle.k2_tree.specs.Squares.{Node}
use Rattle.k2_tree.specs.TreeSquares.{child_at, level_of, node_of, square_number}
use Rattle.k2_tree.specs.Digits.{digits_of}
use Rattle.k2_tree.specs.declared.square.Square.{Square}
use Rattle.k2_tree.specs.declared.pending_children.PendingChildren.{PendingChildren}

-- the pending children, in order
abbrev pub nodes_of : PendingChildren → List Node
nodes_of pending =
    map (child_at pending.width (node_of pending.square)) (digits_of (fan_of pending.width) pending.digits)

-- the child is the first of them, with the first of their numbers, and the others are left
pub record IsNextOf (old : PendingChildren) (child : Square) (new : PendingChildren) : Type 0 where
  pub nodes : nodes_of old ≡ node_of child ∷ nodes_of new
  pub number : square_number child ≡ old.number
  pub later : new.number ≡ old.number + 1
  pub base : child.base ≡ old.square.base
  pub level : level_of child + old.width ≡ level_of old.square

-- the squares stand in a list one after another, the first of them at this place
abbrev pub StandsAt : List Node → ℕ → List Node → Type 0
StandsAt squares number [] = Unit {0}
StandsAt squares number (square ∷ rest) = (slice_get squares number ≡ Some square) × StandsAt squares (suc number) rest

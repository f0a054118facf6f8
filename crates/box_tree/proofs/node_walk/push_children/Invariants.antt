use Rattle.std.proofs.Common.{◌≡◌, ℕ, ◌+◌, List, ◌++◌, length, reverse}
use Rattle.box_tree.specs.Walk.{child_refs}
use Rattle.box_tree.specs.declared.node_ref.NodeRef.{NodeRef}
use Rattle.box_tree.proofs.DigitsLemmas.{digits_from}
use Rattle.box_tree.proofs.node_walk.push_children.Given as goal

-- the children from a digit on were pushed
pub record ArePushed (first : List NodeRef) (parent : NodeRef) (width mask end digit number : ℕ)
    (stack : List NodeRef) : Type 0 where
  pub here : reverse stack ≡ child_refs parent width number (digits_from width mask digit) ++ reverse first
  pub left : number + length (digits_from width mask digit) ≡ end
  pub long : length stack ≡ length first + length (digits_from width mask digit)

abbrev pub invariant-loop-digit : goal.invariant-loop-digit
invariant-loop-digit l = ArePushed l.fn.stack.items l.parent l.width l.mask l.end l.digit l.number l.stack.items

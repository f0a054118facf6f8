-- What a best-first search keeps: nodes and places that wait, and places that were sought.
use Rattle.std.specs.Prelude.{◌≡◌, ℕ, ◌+◌, ◌≤◌, Bool, true, List, length, All}
use Rattle.std.specs.List.{range_with_len, sum_by}
use Rattle.box_tree.specs.Places.{square_worth, square_places}
use Rattle.k2_tree.specs.Squares.{Node}
use Rattle.box_tree.specs.Tree.{TreeView, IsNodeOf, node_at, node_square, whole}
use Rattle.box_tree.specs.declared.node_ref.NodeRef.{NodeRef}

-- a weight of the places below a node
abbrev pub node_weight : (ℕ → ℕ) → TreeView → NodeRef → ℕ
node_weight weight tree ref = sum_by weight (square_places tree.places (node_square tree.narrow ref))

-- the reads that a node is worth
abbrev pub reads_below : (Node → Bool) → TreeView → NodeRef → ℕ
reads_below test tree ref = square_worth test tree.places (node_square tree.narrow ref)

-- Each place was sought, waits, or lies below one node that waits, each once. Of any test that all nodes which were
-- taken pass, the reads so far are paid.
pub record AreQueued (tree : TreeView) (nodes taken : List NodeRef) (waiting sought : List ℕ)
    (begun steps : ℕ) : Type 0 where
  pub are : All (IsNodeOf tree) nodes
  pub parted : (weight : ℕ → ℕ)
      → sum_by weight sought + (sum_by weight waiting + sum_by (node_weight weight tree) nodes)
      ≡ sum_by weight (range_with_len 0 (length tree.places.codes))
  pub reads : (test : Node → Bool) → All (λ ref. test (node_at ref) ≡ true) taken
      → steps + sum_by (reads_below test tree) nodes ≤ begun + square_worth test tree.places (whole tree)

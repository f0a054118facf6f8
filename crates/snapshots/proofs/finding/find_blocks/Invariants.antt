use Rattle.std.proofs.Common.{◌≡◌, ◌+◌, ◌*◌, ◌≤◌, length}
use Rattle.bit_rank.specs.Cost.{select_reads, window_reads}
use Rattle.k2_tree.specs.TreeSquares.{squares_of}
use Rattle.snapshots.specs.Found.{AreFoundBefore}
use Rattle.snapshots.specs.View.{leaf_at, tree_in}
use Rattle.snapshots.proofs.finding.find_blocks.Given as goal

abbrev pub invariant-loop-place : goal.invariant-loop-place
invariant-loop-place g l = record {
  leaf : l.leaf ≡ leaf_at l.fn.snapshot l.place;
  found : AreFoundBefore l.fn.snapshot l.place l.found;
  reads : l.steps ≤ l.fn.steps + (window_reads * length (squares_of (tree_in l.fn.snapshot))
      + select_reads * length l.fn.snapshot.parts.perm + 2 * l.place);
}

use Rattle.std.proofs.Common.{◌+◌, ◌*◌, ◌≤◌, length}
use Rattle.bit_rank.specs.Cost.{select_reads}
use Rattle.snapshots.specs.Found.{AreFoundBefore}
use Rattle.snapshots.proofs.finding.find_bounded.Given as goal

abbrev pub invariant-loop-place : goal.invariant-loop-place
invariant-loop-place g l = record {
  found : AreFoundBefore l.fn.snapshot l.place l.found;
  reads : l.steps ≤ l.fn.steps + (select_reads * length l.fn.snapshot.parts.perm + l.place);
}

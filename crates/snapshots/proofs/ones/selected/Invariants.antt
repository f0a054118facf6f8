use Rattle.std.proofs.Common.{◌≡◌, ◌+◌, ◌*◌, ◌≤◌}
use Rattle.bit_rank.specs.Cost.{select_reads}
use Rattle.snapshots.specs.Ones.{first_ones}
use Rattle.snapshots.proofs.ones.selected.Given as goal

abbrev pub invariant-loop-rank : goal.invariant-loop-rank
invariant-loop-rank g l = record {
  places : l.places.items ≡ first_ones l.bits l.rank;
  reads : l.steps ≤ l.fn.steps + select_reads * l.rank;
}

use Rattle.std.proofs.Common.{◌≡◌, ◌+◌, ◌≤◌}
use Rattle.bit_rank.specs.Bits.{rank_of}
use Rattle.snapshots.specs.Ones.{first_ones}
use Rattle.snapshots.proofs.ones.tested.Given as goal

abbrev pub invariant-loop-place : goal.invariant-loop-place
invariant-loop-place g l = record {
  places : l.places.items ≡ first_ones l.bits (rank_of l.bits l.place);
  reads : l.steps ≤ l.fn.steps + l.place;
}

use Rattle.std.proofs.Common.{◌≡◌, ◌-◌, ◌≤◌, take, drop}
use Rattle.packed_bits.specs.Bits.{ones_of}
use Rattle.k2_tree.proofs.counting.ones_within.Given as goal

abbrev pub invariant-loop-place : goal.invariant-loop-place
invariant-loop-place l = record {
  after : l.from ≤ l.place;
  within : l.place ≤ l.to;
  counted : l.ones ≡ ones_of (take (l.place - l.from) (drop l.from l.bits));
}

abbrev pub decreases-loop-place : goal.decreases-loop-place
decreases-loop-place l = l.to - l.place

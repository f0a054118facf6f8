use Rattle.std.proofs.Common.{◌-◌, ◌≤◌, length}
use Rattle.k2_tree.specs.Pruning.{place_among}
use Rattle.box_tree.proofs.building.end_of.Given as goal

abbrev pub invariant-loop-low : goal.invariant-loop-low
invariant-loop-low l = record {
  below : l.low ≤ place_among l.codes l.bound;
  above : place_among l.codes l.bound ≤ l.high;
  within : l.high ≤ length l.codes;
}

abbrev pub decreases-loop-low : goal.decreases-loop-low
decreases-loop-low l = l.high - l.low

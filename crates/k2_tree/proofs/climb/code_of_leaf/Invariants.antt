use Rattle.std.proofs.Common.{◌+◌, ◌-◌, ◌≤◌}
use Rattle.k2_tree.specs.Cost.{climb_reads}
use Rattle.k2_tree.proofs.ClimbLemmas.{IsClimb}
use Rattle.k2_tree.proofs.climb.code_of_leaf.Given as goal

abbrev pub invariant-levels : goal.invariant-levels
invariant-levels g l =
    record {
      climb : IsClimb l.height l.wide l.bits l.leaf l.level l.square l.code;
      cost : l.steps ≤ l.fn.steps + climb_reads l.level;
    }

abbrev pub decreases-levels : goal.decreases-levels
decreases-levels g l = l.height - l.level

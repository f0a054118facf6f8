use Rattle.std.proofs.Common.{◌-◌, ◌*◌}
use Rattle.k2_tree.proofs.CheckingLemmas.{IsPassed}
use Rattle.k2_tree.proofs.checking.find_flaw.Given as goal

abbrev pub invariant-levels : goal.invariant-levels
invariant-levels l = IsPassed (l.height - 2 * l.wide) l.height l.bits l.level l.start l.groups

abbrev pub decreases-levels : goal.decreases-levels
decreases-levels l = l.level

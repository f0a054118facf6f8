use Rattle.k2_tree.proofs.PushingLemmas.{IsPushing}
use Rattle.k2_tree.proofs.building.push_level.Given as goal

abbrev pub invariant-loop-i : goal.invariant-loop-i
invariant-loop-i l = IsPushing l.width l.level l.i l.codes l.fn.bits l.bits l.group

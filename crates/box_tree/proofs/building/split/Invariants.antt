use Rattle.box_tree.specs.Building.{IsSplitting}
use Rattle.box_tree.proofs.building.split.Given as goal

abbrev pub invariant-loop-digit : goal.invariant-loop-digit
invariant-loop-digit l = IsSplitting l.codes l.width l.task l.digit l.low l.mask l.fn.tasks.items l.tasks.items

use Rattle.std.proofs.Common.{drop, length}
use Rattle.box_tree.specs.Building.{IsMaking, task_squares}
use Rattle.box_tree.proofs.building.make.Given as goal

abbrev pub invariant-loop-tasks : goal.invariant-loop-tasks
invariant-loop-tasks l = IsMaking l.codes l.boxes l.narrow l.fn.tasks.items l.tasks.items l.areas.items l.links.items

abbrev pub decreases-loop-tasks : goal.decreases-loop-tasks
decreases-loop-tasks l = task_squares l.codes l.narrow (drop (length l.links.items) l.tasks.items)

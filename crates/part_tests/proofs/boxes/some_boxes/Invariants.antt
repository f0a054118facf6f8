use Rattle.std.proofs.Common.{All}
use Rattle.box_tree.specs.Boxes.{IsFrom}
use Rattle.part_tests.specs.declared.boxes.TheConstants.{BASE}
use Rattle.part_tests.proofs.boxes.some_boxes.Given as goal

abbrev pub invariant-made : goal.invariant-made
invariant-made l = All (IsFrom BASE) l.boxes.items

use Rattle.std.proofs.Common.{arith, refl}
use Rattle.box_tree.specs.Tree.{levels_below}
use Rattle.part_tests.proofs.boxes.levels_may_take_two_digits.Goals as goal

pub make_places-requires-clause-levels : goal.make_places-requires-clause-levels
unfolding levels_below
make_places-requires-clause-levels g c = record { digits_are = refl; few = omega arith; room = omega arith }

use Rattle.std.proofs.Common.{arith}
use Rattle.box_tree.proofs.TreeLemmas.{levels-narrow}
use Rattle.part_tests.proofs.boxes.a_walk_finds_what_a_filter_finds.Goals as goal

pub make_places-requires-clause-levels : goal.make_places-requires-clause-levels
make_places-requires-clause-levels g c = levels-narrow 4 (omega arith)

use Rattle.std.proofs.Common.{arith}
use Rattle.std.proofs.lemmas.Grind.{elements}
use Rattle.box_tree.proofs.tree.BoxTree.area.Goals as goal

pub at-requires : goal.at-requires
at-requires g c = grind (arith, elements)

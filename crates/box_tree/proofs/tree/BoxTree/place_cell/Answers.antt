use Rattle.std.proofs.Common.{arith}
use Rattle.std.proofs.lemmas.Grind.{common_steps, elements}
use Rattle.box_tree.proofs.tree.BoxTree.place_cell.Goals as goal

pub at-cell-requires : goal.at-cell-requires
at-cell-requires g c = grind (arith, common_steps)

pub square_area-requires-clause-right : goal.square_area-requires-clause-right
square_area-requires-clause-right g c = grind (arith, elements)

pub square_area-requires-clause-upper : goal.square_area-requires-clause-upper
square_area-requires-clause-upper g c = grind (arith, elements)

pub returns-clause-value : goal.returns-clause-value
returns-clause-value g c = grind (arith, elements)

use Rattle.std.proofs.Common.{◌≡◌, map, take}
use Rattle.box_tree.specs.Tree.{AreCells, code_at}
use Rattle.box_tree.proofs.building.cells_of.Given as goal

abbrev pub invariant-loop-code : goal.invariant-loop-code
invariant-loop-code l = (map code_at l.cells.items ≡ take l.code-index l.codes) × AreCells l.cells.items

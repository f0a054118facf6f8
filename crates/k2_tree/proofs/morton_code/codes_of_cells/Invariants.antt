use Rattle.std.proofs.Common.{◌≡◌, map, take}
use Rattle.k2_tree.specs.Morton.{morton_of}
use Rattle.k2_tree.proofs.morton_code.codes_of_cells.Given as goal

abbrev pub invariant-loop-cell : goal.invariant-loop-cell
invariant-loop-cell l = l.codes.items ≡ map (morton_of l.height l.base) (take l.cell-index l.cells)

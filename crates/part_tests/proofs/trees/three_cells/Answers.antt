use Rattle.std.proofs.Common.{zero, suc, [], ◌∷◌, arith}
use Rattle.std.specs.List.Sorted.{IsStrictlyIncreasing}
use Rattle.k2_tree.specs.Morton.{morton_of, interleaved, cell_of, morton_row, morton_column}
use Rattle.part_tests.proofs.trees.three_cells.Goals as goal

numbers : IsStrictlyIncreasing (0 ∷ 3 ∷ 5 ∷ [])
numbers zero within = omega arith
numbers (suc zero) within = omega arith
numbers (suc (suc k)) within = absurd (omega arith)

pub build-requires-clause-ascending : goal.build-requires-clause-ascending
unfolding morton_of interleaved
build-requires-clause-ascending c = rw c.as_slice.ensures numbers

pub returns : goal.returns
unfolding cell_of morton_row morton_column
returns c = record { ok = rw c.as_slice.ensures at c.build.ensures.ok }

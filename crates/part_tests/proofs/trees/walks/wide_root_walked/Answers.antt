use Rattle.std.proofs.Common.{zero, suc, [], ◌∷◌, arith}
use Rattle.std.specs.List.Sorted.{IsStrictlyIncreasing}
use Rattle.k2_tree.specs.Morton.{morton_of, interleaved}
use Rattle.part_tests.proofs.trees.walks.wide_root_walked.Goals as goal

numbers : IsStrictlyIncreasing (13 ∷ 17 ∷ 255 ∷ [])
numbers zero within = omega arith
numbers (suc zero) within = omega arith
numbers (suc (suc k)) within = absurd (omega arith)

pub build-requires-clause-ascending : goal.build-requires-clause-ascending
unfolding morton_of interleaved
build-requires-clause-ascending g c = rw c.as_slice.ensures numbers

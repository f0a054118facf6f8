use Rattle.std.proofs.Common.{arith}
use Rattle.k2_tree.proofs.MortonLemmas.{two_bits}
use Rattle.part_tests.proofs.trees.random.random_codes.Goals as goal

pub returns-clause-small : goal.returns-clause-small
returns-clause-small c = λ k d within.
    let now = c.loop-code in
    omega (arith, now.invariant.below k d within, now.auto.code-end, two_bits c.args.height)

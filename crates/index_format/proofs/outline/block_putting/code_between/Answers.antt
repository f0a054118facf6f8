use Rattle.std.proofs.Common.{◌-ℤ◌, ◌∙◌, arith}
use Rattle.std.proofs.lemmas.Int.{ints}
use Rattle.rule_store.proofs.FlawLemmas.{reach_limit-high}
use Rattle.index_format.proofs.GridLemmas.{in_grid-bounds, same_code}
use Rattle.index_format.proofs.outline.block_putting.code_between.Goals as goal

pub encode_move-requires : goal.encode_move-requires
encode_move-requires c =
    let is = in_grid-bounds c.args.height c.args.from c.requires.from in
    let there = in_grid-bounds c.args.height c.args.to c.requires.to in
    let high = reach_limit-high c.args.height c.requires.height in
    omega (arith, ints, is.left, is.right, is.below, is.above, there.left, there.right, there.below, there.above, high)

pub returns-clause-exact : goal.returns-clause-exact
returns-clause-exact c =
    let is = in_grid-bounds c.args.height c.args.from c.requires.from in
    let there = in_grid-bounds c.args.height c.args.to c.requires.to in
    let high = reach_limit-high c.args.height c.requires.height in
    c.encode_move.ensures.exact ∙ same_code _ _ (c.args.to.x -ℤ c.args.from.x) (c.args.to.y -ℤ c.args.from.y)
    (omega (arith, ints, is.left, is.right, there.left, there.right, high)) (omega (arith, ints, is.below, is.above, there.below, there.above, high))

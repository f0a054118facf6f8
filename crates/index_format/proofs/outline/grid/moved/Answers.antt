use Rattle.std.proofs.Common.{arith}
use Rattle.std.proofs.lemmas.Int.{ints}
use Rattle.rule_store.proofs.CellLemmas.{same_cell}
use Rattle.rule_store.proofs.FlawLemmas.{reach_limit-high}
use Rattle.index_format.proofs.GridLemmas.{in_grid-bounds}
use Rattle.index_format.proofs.outline.grid.moved.Goals as goal

pub returns : goal.returns
returns c =
    let is = in_grid-bounds c.args.height c.args.cell c.requires.cell in
    let high = reach_limit-high c.args.height c.requires.height in
    same_cell _ _ _ _ (omega (arith, ints, is.left, is.right, high, c.requires.dx.low, c.requires.dx.high))
    (omega (arith, ints, is.below, is.above, high, c.requires.dy.low, c.requires.dy.high))

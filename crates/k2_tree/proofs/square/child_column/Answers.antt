use Rattle.std.proofs.Common.{arith}
use Rattle.k2_tree.proofs.PlaceLemmas.{before_kept}
use Rattle.k2_tree.proofs.square.child_column.Goals as goal

pub returns : goal.returns
returns c = omega (arith, c.digit_column.ensures.value, before_kept c.args.column c.args.width c.requires.right)

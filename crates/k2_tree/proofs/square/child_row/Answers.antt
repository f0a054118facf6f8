use Rattle.std.proofs.Common.{arith}
use Rattle.k2_tree.proofs.PlaceLemmas.{before_kept}
use Rattle.k2_tree.proofs.square.child_row.Goals as goal

pub returns : goal.returns
returns c = omega (arith, c.digit_row.ensures.value, before_kept c.args.row c.args.width c.requires.upper)

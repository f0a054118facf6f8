use Rattle.std.proofs.Common.{◌%◌, ◌∙◌, arith}
use Rattle.k2_tree.proofs.MortonLemmas.{interleaved-lt}
use Rattle.k2_tree.proofs.SpreadLemmas.{interleaved-mod}
use Rattle.k2_tree.proofs.morton_code.spread.Goals as goal

pub returns-clause-value : goal.returns-clause-value
returns-clause-value c = c.spread_half.ensures ∙ interleaved-mod 16 c.args.number

pub returns-clause-small : goal.returns-clause-small
returns-clause-small c = omega (arith, c.spread_half.ensures, interleaved-lt 16 0 (c.args.number % 65536))

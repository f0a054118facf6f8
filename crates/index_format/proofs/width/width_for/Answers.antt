use Rattle.std.proofs.Common.{sym, arith}
use Rattle.index_format.proofs.WidthLemmas.{width_for-first}
use Rattle.index_format.proofs.width.width_for.Goals as goal

pub returns-then-symbols-width-clause-exact : goal.returns-then-symbols-width-clause-exact
returns-then-symbols-width-clause-exact c =
    sym (width_for-first c.args.symbols c.loop-width.width (omega arith) (omega arith) c.loop-width.invariant (omega arith))

pub returns-clause-exact : goal.returns-clause-exact
returns-clause-exact c =
    sym (width_for-first c.args.symbols 26 (omega arith) (omega arith)
    (λ k some low. c.loop-width.invariant k some (omega arith)) (omega arith))

use Rattle.std.proofs.Common.{arith, sym}
use Rattle.track_types.specs.declared.limit.TheConstants.{MAX_HEIGHT}
use Rattle.chart_parts.proofs.HeaderLemmas.{height_for-first}
use Rattle.chart_parts.proofs.header.height_for.Goals as goal

pub returns-then-extent-height : goal.returns-then-extent-height
returns-then-extent-height c =
    sym (height_for-first c.args.extent c.loop-height.height (omega arith) (omega arith) c.loop-height.invariant
    (omega arith))

pub returns : goal.returns
returns c =
    sym (height_for-first c.args.extent MAX_HEIGHT (omega arith) (omega arith)
    (λ k some low. c.loop-height.invariant k some (omega arith)) (omega arith))

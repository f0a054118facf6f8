use Rattle.std.proofs.Common.{arith, below_more, sym}
use Rattle.std.proofs.lemmas.Bool.{lt-leb}
use Rattle.snapshots.proofs.OrderLemmas.{offset_flaw-at, offset_flaw-none}
use Rattle.snapshots.proofs.checking.find_late.Goals as goal

pub returns-then-offset-instants : goal.returns-then-offset-instants
returns-then-offset-instants c =
    sym (offset_flaw-at c.args.instants c.args.offsets.now c.loop-place.place c.loop-place-test.true
    c.loop-place.invariant c.if-offset-instants.true)

pub loop-place-preserved : goal.loop-place-preserved
loop-place-preserved c = below_more _ _ c.loop-place.invariant (lt-leb _ _ c.if-offset-instants.false)

pub returns : goal.returns
returns c =
    sym (offset_flaw-none c.args.instants c.args.offsets.now (λ j within. c.loop-place.invariant j (omega arith)))

use Rattle.std.proofs.Common.{arith}
use Rattle.std.proofs.lemmas.Int.{ints}
use Rattle.snapshots.proofs.LogsLemmas.{along-after, along-before, along-inside}
use Rattle.snapshots.proofs.logs.is_along.Goals as goal

pub returns-then-amount-first : goal.returns-then-amount-first
returns-then-amount-first c =
    along-before c.args.frame.now.height c.args.least c.args.amount c.args.first c.args.last
    (omega (arith, ints, c.if-amount-first.true))

pub returns-then-amount-last : goal.returns-then-amount-last
returns-then-amount-last c =
    along-after c.args.frame.now.height c.args.least c.args.amount c.args.first c.args.last
    (omega (arith, ints, c.side_of.ensures.value, c.if-amount-last.true))

pub returns : goal.returns
returns c =
    along-inside c.args.frame.now.height c.args.least c.args.amount c.args.first c.args.last
    (omega (arith, ints, c.if-amount-first.false)) (omega (arith, ints, c.side_of.ensures.value, c.if-amount-last.false))

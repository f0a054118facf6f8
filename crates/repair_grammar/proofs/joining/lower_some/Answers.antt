use Rattle.std.proofs.Common.{arith}
use Rattle.repair_grammar.proofs.CountLemmas.{times_of-some, times_of-none}
use Rattle.repair_grammar.proofs.joining.lower_some.Goals as goal

pub returns-in-Some-clause-counts : goal.returns-in-Some-clause-counts
returns-in-Some-clause-counts c = λ other.
    rw c.in-Some.is (rw (times_of-some c.in-Some.pair other) (c.lower.ensures.counts other))

pub returns-in_default-clause-counts : goal.returns-in_default-clause-counts
returns-in_default-clause-counts c = λ other. rw c.in_default.is (omega (arith, times_of-none other))

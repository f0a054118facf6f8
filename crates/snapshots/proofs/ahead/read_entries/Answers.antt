use Rattle.std.proofs.Common.{ℕ, arith, rules, ◌∙◌}
use Rattle.std.proofs.lemmas.List.{length-set}
use Rattle.snapshots.proofs.AheadLemmas.{stored-more, stored-none, stored-read}
use Rattle.snapshots.proofs.ahead.read_entries.Goals as goal

pub loop-i-init : goal.loop-i-init
loop-i-init g c = record { long = search rules; stored = stored-none c.args.rules.now c.args.entries.now c.args.from; reads = omega arith }

pub loop-i-preserved : goal.loop-i-preserved
loop-i-preserved g c =
    let rules = c.args.rules.now in
    let i : ℕ = c.loop-i.i in
    let log = c.block-log.ensures in
    let read = stored-read c.block-log.result rules c.args.from c.args.count log.rules log.from log.len i
    c.loop-i-test.true c.entry.result c.entry.ensures.value in
    record {
      long = length-set c.loop-i.entries i c.entry.result ∙ c.loop-i.invariant.long;
      stored = stored-more rules c.loop-i.entries c.args.from i c.entry.result c.loop-i.invariant.stored
          (omega (arith, c.loop-i.invariant.long, c.loop-i-test.true, c.requires.few)) read c.entry.ensures.reach;
      reads = omega (arith, c.entry.ensures.cost, c.loop-i.invariant.reads);
    }

pub returns-clause-stored : goal.returns-clause-stored
returns-clause-stored g c = λ i d below. c.loop-i.invariant.stored i d (omega (arith, below, c.loop-i-test.false))

use Rattle.std.proofs.Common.{arith}
use Rattle.std.proofs.lemmas.Result.{err_from_is_err_and}
use Rattle.index_format.proofs.BoundedLemmas.{in_grid-widest}
use Rattle.index_format.proofs.EntryLemmas.{entries-filled, entries-done, entries-fault, entries-more}
use Rattle.index_format.proofs.outline.entries.log_in.Goals as goal

pub begun-log-requires : goal.begun-log-requires
begun-log-requires c = in_grid-widest c.args.ground.frame.height c.args.start.cell c.args.ground.height_fits c.requires

pub returns-then-log-eq0-clause-exact : goal.returns-then-log-eq0-clause-exact
returns-then-log-eq0-clause-exact c view whole = entries-filled c.loop.invariant.entries c.if-log-eq0.true view whole

pub returns-clause-exact : goal.returns-clause-exact
returns-clause-exact c view whole = entries-done c.loop.invariant.entries c.loop-test.false view whole

pub returns-in_err-log-clause-exact : goal.returns-in_err-log-clause-exact
returns-in_err-log-clause-exact c view whole =
    let p = err_from_is_err_and c.from_residual.result c.from_residual.ensures.1 in
    rw (p.1, p.2) (entries-fault c.loop.invariant.entries c.loop-test.true (omega (arith, c.if-log-eq0.false)) view whole c.in_err-log.field-0.0
    (c.in_err-log.ensures.exact view whole))

pub loop-preserved : goal.loop-preserved
loop-preserved c = record {
  entries = entries-more c.loop.invariant.entries c.loop-test.true (omega (arith, c.if-log-eq0.false)) c.entry_in.new.symbols.items
      c.in_ok-log.log.at c.entry_in.new.reader c.in_ok-log.ensures.within c.in_ok-log.ensures.one c.in_ok-log.ensures.exact;
  own = λ view whole. c.in_ok-log.ensures.read view c.args.start c.args.symbols.now.items whole (c.loop.invariant.own view whole);
}

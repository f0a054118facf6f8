use Rattle.std.proofs.Common.{arith, subst, sym}
use Rattle.snapshots.specs.Flaws.{IsSnapFaultFor}
use Rattle.snapshots.specs.JoinFlaws.{log_flaw}
use Rattle.snapshots.proofs.LogsLemmas.{log_flaw-duration, log_flaw-none, log_flaw-off_grid}
use Rattle.snapshots.proofs.logs.judge_log.Goals as goal

pub returns-in-Err-clause-flaw : goal.returns-in-Err-clause-flaw
returns-in-Err-clause-flaw g c =
    subst (IsSnapFaultFor (log_flaw c.args.frame.now c.args.ahead.now.rules c.args.number c.args.rank c.args.block.now))
    (sym c.flaw.ensures)
    (log_flaw-off_grid c.args.frame.now c.args.ahead.now.rules c.args.number c.args.rank c.args.block.now c.in-Err.place
    c.in-Err.ensures.err)

pub returns-then-summary-from-clause-exact : goal.returns-then-summary-from-clause-exact
returns-then-summary-from-clause-exact g c =
    log_flaw-none c.args.frame.now c.args.ahead.now.rules c.args.number c.args.rank c.args.block.now c.in-Ok.ensures.inside
    (omega (arith, c.in-Ok.ensures.ok, c.if-summary-from.true, c.from.ensures, c.instants_in.ensures))

pub returns-else-summary-from-clause-flaw : goal.returns-else-summary-from-clause-flaw
returns-else-summary-from-clause-flaw g c =
    subst (IsSnapFaultFor (log_flaw c.args.frame.now c.args.ahead.now.rules c.args.number c.args.rank c.args.block.now))
    (sym c.flaw-else-summary-from.ensures)
    (log_flaw-duration c.args.frame.now c.args.ahead.now.rules c.args.number c.args.rank c.args.block.now
    c.in-Ok.ensures.inside
    (λ same. c.if-summary-from.false
    (omega (arith, same, c.in-Ok.ensures.ok, c.from.ensures, c.instants_in.ensures))))

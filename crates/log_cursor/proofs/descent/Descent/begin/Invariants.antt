use Rattle.std.proofs.Common.{◌+◌}
use Rattle.rule_store.specs.Log.{log_of}
use Rattle.log_cursor.specs.Descent.{IsPassing}
use Rattle.log_cursor.proofs.descent.Descent.begin.Given as goal

abbrev pub invariant-loop-i : goal.invariant-loop-i
invariant-loop-i g l =
    IsPassing l.fn.view.rules.now (log_of l.fn.view) l.fn.start l.fn.instant l.fn.test.region l.fn.steps l.i l.at
    (l.steps + 1)

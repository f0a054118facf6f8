use Rattle.std.proofs.Common.{length}
use Rattle.track_index.proofs.PeriodLemmas.{AreChecked}
use Rattle.track_index.proofs.opening.check_each.Given as goal

abbrev pub invariant-loop-period : goal.invariant-loop-period
invariant-loop-period l =
    AreChecked l.header.value l.objects l.fn.periods (length l.yielded) l.start l.snaps.items

use Rattle.std.proofs.Common.{length}
use Rattle.track_index.proofs.PeriodLemmas.{AreChecked}
use Rattle.track_index.proofs.opening.flawless_snaps.Given as goal

abbrev pub invariant-loop-parts : goal.invariant-loop-parts
invariant-loop-parts l =
    AreChecked l.header.value l.objects l.fn.periods (length l.yielded) l.start l.snaps.items

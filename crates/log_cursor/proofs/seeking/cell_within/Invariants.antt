use Rattle.log_cursor.specs.Seek.{IsInside}
use Rattle.log_cursor.proofs.seeking.cell_within.Given as goal

abbrev pub invariant-loop-inner : goal.invariant-loop-inner
invariant-loop-inner g l = IsInside l.rules l.fn.entry.symbol l.fn.start l.fn.instant l.fn.steps l.inner l.at l.steps

abbrev pub decreases-loop-inner : goal.decreases-loop-inner
decreases-loop-inner g l = l.inner.symbol

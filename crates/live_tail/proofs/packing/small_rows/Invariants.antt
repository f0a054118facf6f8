use Rattle.std.proofs.Common.{◌≡◌, take}
use Rattle.live_tail.specs.SmallRows.{rows_from}
use Rattle.live_tail.proofs.packing.small_rows.Given as goal

abbrev pub invariant-loop-row : goal.invariant-loop-row
invariant-loop-row l = rows_from l.origin l.smalls.items ≡ take l.row-index l.rows

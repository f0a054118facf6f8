use Rattle.std.proofs.Common.{◌≡◌, ◌++◌, map, take}
use Rattle.track_types.specs.ByFilter.{near_of}
use Rattle.live_tail.specs.SmallRows.{rows_in}
use Rattle.live_tail.proofs.nearest.push_nears.Given as goal

abbrev pub invariant-loop-small : goal.invariant-loop-small
invariant-loop-small l = l.found.items ≡ l.initial.found.items ++ map (near_of l.cell) (take l.small-index (rows_in l.rows))

use Rattle.std.proofs.Common.{◌++◌, List, take}
use Rattle.track_types.specs.declared.row.Row.{Row}
use Rattle.live_tail.specs.Hits.{HaveFirst}
use Rattle.live_tail.specs.SmallRows.{rows_in}
use Rattle.live_tail.proofs.row_search.RowSearch.push_hits_of.Given as goal

abbrev pub invariant-loop-small : goal.invariant-loop-small
invariant-loop-small l =
    (before : List Row) → HaveFirst before l.self.from l.self.to l.self.region.now l.initial.found.items
    → HaveFirst (before ++ take l.small-index (rows_in l.rows)) l.self.from l.self.to l.self.region.now l.found.items

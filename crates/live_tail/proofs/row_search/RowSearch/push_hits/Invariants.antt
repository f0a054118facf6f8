use Rattle.std.proofs.Common.{◌≡◌, ◌++◌, List, length}
use Rattle.track_types.specs.declared.row.Row.{Row}
use Rattle.live_tail.specs.Chunks.{AreChunksOf}
use Rattle.live_tail.specs.Hits.{HaveFirst}
use Rattle.live_tail.specs.SmallRows.{rows_in}
use Rattle.live_tail.proofs.row_search.RowSearch.push_hits.Given as goal

-- the rows that were passed, and the chunks of those that are left
abbrev pub invariant-loop-chunk : goal.invariant-loop-chunk
invariant-loop-chunk l = record {
  passed : List Row;
  all : passed ++ rows_in l.rest ≡ rows_in l.rows;
  are : AreChunksOf (rows_in l.rest) l.left;
  have : (before : List Row) → HaveFirst before l.self.from l.self.to l.self.region.now l.initial.found.items
      → HaveFirst (before ++ passed) l.self.from l.self.to l.self.region.now l.found.items;
}

abbrev pub decreases-loop-chunk : goal.decreases-loop-chunk
decreases-loop-chunk l = length l.left

use Rattle.std.proofs.Common.{◌≡◌, ◌++◌, ◌+◌, ◌≤◌, take}
use Rattle.std.specs.List.{filter_map, sum_by}
use Rattle.snapshots.specs.Parts.{chart_in}
use Rattle.track_index.specs.Cost.{cost_of}
use Rattle.live_tail.specs.Cost.{standing_cost}
use Rattle.live_tail.specs.Hits.{standing}
use Rattle.live_tail.specs.Join.{rows_of_tail}
use Rattle.live_tail.proofs.interval.TailInterval.push_standing.Given as goal

abbrev pub invariant-loop-hit : goal.invariant-loop-hit
invariant-loop-hit g l = record {
  found : l.found.items ≡ l.initial.found.items ++ filter_map (standing
      (chart_in l.fn.self.index.index.now).rows (rows_of_tail l.fn.self.tail.now)
      l.fn.self.from l.fn.self.to l.fn.self.test.now.region) (take l.hit-index l.hits);
  reads : l.steps ≤ l.initial.steps + sum_by (standing_cost (cost_of l.fn.self.index.index.now)
      (rows_of_tail l.fn.self.tail.now) l.fn.self.from l.fn.self.to) (take l.hit-index l.hits);
}

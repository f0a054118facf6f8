use Rattle.std.proofs.Common.{◌+◌, ◌≤◌}
use Rattle.std.specs.List.{sum_by}
use Rattle.slice_search.specs.Live.{AreLive}
use Rattle.slice_search.specs.Seekers.{AreTurned, reads_in, weight_in}
use Rattle.slice_search.proofs.seekers.search_all.Given as goal

abbrev pub invariant-loop-count : goal.invariant-loop-count
invariant-loop-count g l = record {
  few : l.count ≤ 16;
  live : AreLive l.live l.count l.seekers;
  turned : AreTurned l.rules l.instant l.test.region l.fn.seekers l.seekers;
  cost : l.steps + sum_by (reads_in l.rules l.instant l.test.region) l.seekers
      ≤ l.fn.steps + sum_by (reads_in l.rules l.instant l.test.region) l.fn.seekers;
}

abbrev pub decreases-loop-count : goal.decreases-loop-count
decreases-loop-count g l = sum_by weight_in l.seekers + l.count

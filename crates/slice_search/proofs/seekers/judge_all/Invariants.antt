use Rattle.std.proofs.Common.{◌≡◌, ◌+◌, ◌<◌, ◌≤◌, length}
use Rattle.std.specs.List.{sum_by}
use Rattle.slice_search.specs.Live.{first_of}
use Rattle.slice_search.specs.Seekers.{AreTurned, reads_in, turning_in, weight_in}
use Rattle.slice_search.proofs.LiveLemmas.{AreSifted}
use Rattle.slice_search.proofs.seekers.judge_all.Given as goal

abbrev pub invariant-loop-k : goal.invariant-loop-k
invariant-loop-k g l = record {
  long : length l.live ≡ 16;
  turned : AreTurned l.rules l.instant l.test.region l.fn.seekers l.seekers;
  few : l.left ≤ l.k;
  live : AreSifted l.live l.left l.k l.count l.seekers;
  first : 0 < l.k → l.left + 1 ≤ l.k + turning_in (first_of l.live l.seekers);
  weight : sum_by weight_in l.seekers ≤ sum_by weight_in l.fn.seekers;
  cost : sum_by (reads_in l.rules l.instant l.test.region) l.seekers
      ≤ sum_by (reads_in l.rules l.instant l.test.region) l.fn.seekers;
}

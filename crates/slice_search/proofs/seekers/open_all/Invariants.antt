use Rattle.std.proofs.Common.{◌≡◌, ◌+◌, ◌<◌, ◌≤◌, All, length}
use Rattle.std.specs.List.{sum_by}
use Rattle.step_count.specs.Reads.{ofRule}
use Rattle.track_types.specs.declared.region.Region.{Region}
use Rattle.slice_search.specs.Live.{AreLive, first_of}
use Rattle.slice_search.specs.Seekers.{AreTurned, IsSeeker, OpensNext, parted_in, reads_in, turning_in, weight_in}
use Rattle.slice_search.proofs.seekers.open_all.Given as goal

abbrev pub invariant-loop-k : goal.invariant-loop-k
invariant-loop-k g l = record {
  long : length l.live ≡ 16;
  sound : All (IsSeeker l.rules l.instant) l.seekers;
  next : All (OpensNext (λ rule. g.L.Reads.may (ofRule rule))) l.seekers;
  turned : (region : Region) → AreTurned l.rules l.instant region l.fn.seekers l.seekers;
  live : AreLive l.live l.count l.seekers;
  turning : turning_in (first_of l.live l.seekers) ≡ turning_in (first_of l.live l.fn.seekers);
  parted : 0 < l.k → turning_in (first_of l.live l.seekers) ≤ parted_in (first_of l.live l.seekers);
  weight : sum_by weight_in l.seekers ≤ sum_by weight_in l.fn.seekers;
  cost : (region : Region) → l.steps + sum_by (reads_in l.rules l.instant region) l.seekers
      ≤ l.fn.steps + sum_by (reads_in l.rules l.instant region) l.fn.seekers;
}

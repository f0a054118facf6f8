use Rattle.std.proofs.Common.{◌≡◌, ◌+◌, ◌<◌, ◌≤◌, All, length}
use Rattle.std.specs.List.{sum_by}
use Rattle.track_types.specs.declared.region.Region.{Region}
use Rattle.slice_search.specs.Live.{AreLive, first_of}
use Rattle.slice_search.specs.Seekers.{AreTurned, IsSeeker, parted_in, reads_in, weight_in}
use Rattle.slice_search.proofs.seekers.turn_all.Given as goal

abbrev pub invariant-loop-k : goal.invariant-loop-k
invariant-loop-k l = record {
  long : length l.live ≡ 16;
  sound : All (IsSeeker l.rules l.instant) l.seekers;
  turned : (region : Region) → AreTurned l.rules l.instant region l.fn.seekers l.seekers;
  live : AreLive l.live l.count l.seekers;
  parted : 0 < l.k → parted_in (first_of l.live l.seekers) ≡ 0;
  weight : sum_by weight_in l.seekers ≤ sum_by weight_in l.fn.seekers;
  less : sum_by weight_in l.seekers + parted_in (first_of l.live l.fn.seekers)
      ≤ sum_by weight_in l.fn.seekers + parted_in (first_of l.live l.seekers);
  cost : (region : Region) → sum_by (reads_in l.rules l.instant region) l.seekers
      ≤ sum_by (reads_in l.rules l.instant region) l.fn.seekers;
}

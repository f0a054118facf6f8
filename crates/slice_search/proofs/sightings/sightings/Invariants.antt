use Rattle.std.proofs.Common.{◌≡◌, ◌+◌, ◌++◌, ◌<◌, ◌≤◌, [], length, vec_capacity}
use Rattle.std.specs.List.{sum_by}
use Rattle.step_count.specs.Reads.{ReadsWithin}
use Rattle.slice_search.specs.Sought.{log_reads}
use Rattle.slice_search.proofs.WalkLemmas.{IsWalking}
use Rattle.slice_search.proofs.sightings.sightings.Given as goal

abbrev pub invariant-loop-block : goal.invariant-loop-block
invariant-loop-block g l =
    let parts = l.fn.sought.stores.now in
    let number = l.fn.sought.period in
    let instant = l.fn.sought.from in
    let region = l.fn.sought.test.now.region in
    record {
      walking : IsWalking parts number instant region (g.W.Lazy.left l.fn.blocks)
          (l.group.items ++ g.W.Lazy.left l.blocks) l.found.items;
      few : length l.group.items < 16;
      room : 16 ≤ vec_capacity l.group;
      may : ReadsWithin (g.W.Lazy.needs l.blocks) g.L.Reads.may;
      idle : l.seekers.items ≡ [];
      reads : l.steps + (g.W.Lazy.budget l.blocks + sum_by (log_reads parts number instant instant region)
          (l.group.items ++ g.W.Lazy.left l.blocks))
          ≤ l.fn.steps + (g.W.Lazy.budget l.fn.blocks
          + sum_by (log_reads parts number instant instant region) (g.W.Lazy.left l.fn.blocks));
    }

abbrev pub decreases-loop-block : goal.decreases-loop-block
decreases-loop-block g l = length (g.W.Lazy.left l.blocks)

use Rattle.std.proofs.Common.{◌≡◌, ◌+◌, ◌≤◌, All, length, take}
use Rattle.std.specs.List.{filter_map, sum_by}
use Rattle.snapshots.specs.Parts.{rules_in}
use Rattle.slice_search.specs.Needs.{period_rule}
use Rattle.slice_search.specs.Seekers.{first_reads_in, reads_in, seen_by, IsSeeker, OpensWithin}
use Rattle.slice_search.specs.Sightings.{sighting_in}
use Rattle.slice_search.specs.Sought.{log_reads}
use Rattle.slice_search.proofs.sightings.begin_each.Given as goal

abbrev pub invariant-loop-i : goal.invariant-loop-i
invariant-loop-i g l =
    let parts = l.fn.sought.stores.now in
    let number = l.fn.sought.period in
    let instant = l.fn.sought.from in
    let region = l.fn.sought.test.now.region in
    record {
      count : length l.seekers.items ≡ l.i;
      sound : All (IsSeeker (rules_in parts) instant) l.seekers.items;
      opens : All (OpensWithin (rules_in parts) instant region (period_rule parts number instant instant region))
          l.seekers.items;
      seen : filter_map (seen_by (rules_in parts) instant region) l.seekers.items
          ≡ filter_map (sighting_in parts number instant instant region) (take l.i l.group);
      reads : l.steps + (sum_by (first_reads_in parts number instant) (take l.i l.group)
          + sum_by (reads_in (rules_in parts) instant region) l.seekers.items)
          ≤ l.fn.steps + sum_by (log_reads parts number instant instant region) (take l.i l.group);
    }

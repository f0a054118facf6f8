use Rattle.std.proofs.Common.{◌≡◌, ◌+◌, length, map, take}
use Rattle.std.specs.List.{sum_by}
use Rattle.slice_search.specs.Seekers.{first_in, first_reads_in}
use Rattle.slice_search.proofs.sightings.first_symbols.Given as goal

abbrev pub invariant-loop-i : goal.invariant-loop-i
invariant-loop-i g l =
    let parts = l.fn.sought.stores.now in
    let number = l.fn.sought.period in
    let instant = l.fn.sought.from in
    record {
      count : length l.firsts.items ≡ l.i;
      value : l.firsts.items ≡ map (first_in parts number instant) (take l.i l.group);
      reads : l.steps ≡ l.fn.steps + sum_by (first_reads_in parts number instant) (take l.i l.group);
    }

use Rattle.std.proofs.Common.{◌≡◌, ◌++◌, filter, map, take}
use Rattle.track_types.specs.ByFilter.{sighting_of}
use Rattle.track_types.specs.Region.{in_region}
use Rattle.track_types.specs.declared.row.Row.{Row}
use Rattle.live_tail.specs.SmallRows.{rows_in}
use Rattle.live_tail.proofs.slice.push_seen.Given as goal

abbrev pub invariant-loop-small : goal.invariant-loop-small
invariant-loop-small l =
    l.found.items ≡ l.initial.found.items
    ++ map sighting_of (filter (λ (row : Row). in_region l.region row.cell) (take l.small-index (rows_in l.rows)))

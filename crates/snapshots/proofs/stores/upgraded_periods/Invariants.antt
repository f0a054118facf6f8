use Rattle.std.proofs.Common.{◌≡◌, ◌+◌, ◌≤◌, length, map, take}
use Rattle.std.specs.List.{sum_by}
use Rattle.snapshots.specs.Upgrade.{tree_reads, upgraded_parts}
use Rattle.snapshots.proofs.stores.upgraded_periods.Given as goal

abbrev pub invariant-loop-snapshot : goal.invariant-loop-snapshot
invariant-loop-snapshot g l = record {
  made : l.periods.items ≡ map upgraded_parts (take (length l.yielded) l.fn.snaps.items);
  reads : l.steps ≤ l.fn.steps + sum_by tree_reads (take (length l.yielded) l.fn.snaps.items);
}

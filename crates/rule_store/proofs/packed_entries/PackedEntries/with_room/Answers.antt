use Rattle.std.proofs.Common.{ap, map}
use Rattle.rule_store.specs.Stored.{entries_of, wide_entry}
use Rattle.rule_store.proofs.packed_entries.PackedEntries.with_room.Goals as goal

pub returns-in_ok-with_capacity : goal.returns-in_ok-with_capacity
unfolding entries_of
returns-in_ok-with_capacity c = ap (map wide_entry) c.in_ok-with_capacity.ensures.items

pub returns-in_ok-with_capacity-2 : goal.returns-in_ok-with_capacity-2
unfolding entries_of
returns-in_ok-with_capacity-2 c = c.in_ok-with_capacity-2.ensures.items

use Rattle.std.proofs.Common.{ap, map}
use Rattle.rule_store.specs.Stored.{entries_of, wide_entry}
use Rattle.rule_store.proofs.packed_entries.PackedEntries.new.Goals as goal

pub returns-then-are_narrow : goal.returns-then-are_narrow
unfolding entries_of
returns-then-are_narrow c = ap (map wide_entry) c.new.ensures.items

pub returns-else-are_narrow : goal.returns-else-are_narrow
unfolding entries_of
returns-else-are_narrow c = c.new-else-are_narrow.ensures.items

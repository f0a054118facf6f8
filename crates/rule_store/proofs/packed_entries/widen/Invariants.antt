use Rattle.std.proofs.Common.{◌≡◌, map, take}
use Rattle.rule_store.specs.Stored.{wide_entry}
use Rattle.rule_store.proofs.packed_entries.widen.Given as goal

abbrev pub invariant-loop-entry : goal.invariant-loop-entry
invariant-loop-entry l = l.wide.items ≡ map wide_entry (take l.entry-index l.list.items)

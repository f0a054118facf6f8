use Rattle.std.proofs.Common.{arith}
use Rattle.std.proofs.lemmas.List.{length-map}
use Rattle.rule_store.specs.Stored.{entries_of, wide_entry}
use Rattle.rule_store.proofs.packed_entries.PackedEntries.len.Goals as goal

pub returns-in-Narrow : goal.returns-in-Narrow
unfolding entries_of
returns-in-Narrow c =
    let list = c.in-Narrow.list in
    rw c.in-Narrow.is (omega (arith, c.len.ensures, list.ok.0, length-map list.items wide_entry))

pub returns-in-Wide : goal.returns-in-Wide
unfolding entries_of
returns-in-Wide c = rw c.in-Wide.is (omega (arith, c.len-in-Wide.ensures, c.in-Wide.list.ok.0))

use Rattle.std.proofs.Common.{subst, sym}
use Rattle.rule_store.specs.Entry.{entry_of}
use Rattle.rule_store.specs.Expansion.{values_of}
use Rattle.rule_store.specs.Stored.{IsEntryOf}
use Rattle.rule_store.specs.declared.packed_entry.PackedEntry.{PackedEntry}
use Rattle.rule_store.proofs.entry_table.EntryTable.entry.Goals as goal

pub returns-clause-value : goal.returns-clause-value
unfolding entry_of
returns-clause-value c = λ view known.
    let packed : PackedEntry = c.at.result in
    let is : IsEntryOf view c.args.symbol packed =
    subst (IsEntryOf view c.args.symbol) (sym c.at.ensures) (known.entries.each c.args.symbol packed c.requires) in
    c.unpack.ensures.value (values_of view c.args.symbol) is.values

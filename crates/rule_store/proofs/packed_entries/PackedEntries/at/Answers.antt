use Rattle.std.proofs.Common.{◌<◌, length, ap, sym, ◌∙◌, arith}
use Rattle.std.proofs.lemmas.List.{get_or-map, length-map}
use Rattle.rule_store.specs.Stored.{entries_of, wide_entry}
use Rattle.rule_store.proofs.packed_entries.PackedEntries.at.Goals as goal

pub index-requires : goal.index-requires
unfolding entries_of
index-requires c =
    let list = c.in-Narrow.list in
    let within = rw c.in-Narrow.is at c.requires in
    omega (arith, within, list.ok.0, length-map list.items wide_entry)

pub index-requires-in-Wide : goal.index-requires-in-Wide
unfolding entries_of
index-requires-in-Wide c =
    let within = rw c.in-Wide.is at c.requires in
    omega (arith, within, c.in-Wide.list.ok.0)

pub returns-in-Narrow : goal.returns-in-Narrow
unfolding entries_of
returns-in-Narrow c =
    let list = c.in-Narrow.list in
    let within : c.args.place < length list.items =
    omega (arith, rw c.in-Narrow.is at c.requires, length-map list.items wide_entry) in
    rw c.in-Narrow.is (c.widen.ensures ∙ ap wide_entry c.index.ensures
    ∙ sym (get_or-map wide_entry list.items c.args.place c.index.result.now c.widen.result within))

pub returns-in-Wide : goal.returns-in-Wide
unfolding entries_of
returns-in-Wide c = rw c.in-Wide.is c.index-in-Wide.ensures

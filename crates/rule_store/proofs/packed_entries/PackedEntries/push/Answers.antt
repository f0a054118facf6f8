use Rattle.std.proofs.Common.{[], ◌∷◌, ◌++◌, ap, map, rules, ◌∙◌}
use Rattle.std.proofs.lemmas.List.{map-append}
use Rattle.rule_store.specs.Stored.{entries_of, wide_entry}
use Rattle.rule_store.proofs.packed_entries.PackedEntries.push.Goals as goal

pub returns-in_err-push-in-Some : goal.returns-in_err-push-in-Some
unfolding entries_of
returns-in_err-push-in-Some c =
    rw (c.in-Narrow.is, c.in_err-push-in-Some.ensures.items) (search rules)

pub returns-in_err-push-in-Wide : goal.returns-in_err-push-in-Wide
unfolding entries_of
returns-in_err-push-in-Wide c =
    rw (c.in-Wide.is, c.in_err-push-in-Wide.ensures.items) (search rules)

pub returns-in_ok-push-in-Some : goal.returns-in_ok-push-in-Some
unfolding entries_of
returns-in_ok-push-in-Some c =
    let list = c.in-Narrow.list in
    let narrow = c.in-Some.narrow in
    rw c.in-Narrow.is (ap (map wide_entry) c.in_ok-push-in-Some.ensures.items
    ∙ map-append wide_entry list.items (narrow ∷ [])
    ∙ ap (λ entry. map wide_entry list.items ++ entry ∷ []) c.in-Some.ensures)

pub returns-in_ok-push-in-None : goal.returns-in_ok-push-in-None
unfolding entries_of
returns-in_ok-push-in-None c =
    rw c.in-Narrow.is (c.in_ok-push-in-None.ensures.items
    ∙ ap (λ entries. entries ++ c.args.entry ∷ []) c.in_ok-wide-in-None.ensures)

pub returns-in_ok-push-in-Wide : goal.returns-in_ok-push-in-Wide
unfolding entries_of
returns-in_ok-push-in-Wide c = rw c.in-Wide.is c.in_ok-push-in-Wide.ensures.items

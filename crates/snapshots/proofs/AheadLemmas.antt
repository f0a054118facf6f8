-- The entries of stored symbols, read one after another.
use Rattle.std.proofs.Common.{◌≡◌, ◌≢◌, ℕ, ◌+◌, ◌-◌, ◌<◌, List, ap, arith, drop, get_or, inl, inr, length, rules, set, subst, ◌∙◌}
use Rattle.std.specs.List.{slice_range}
use Rattle.std.proofs.lemmas.Bool.{cases_lt}
use Rattle.std.proofs.lemmas.List.{get_or-drop, get_or-set_other, get_or-set_same, get_or-take}
use Rattle.rule_store.specs.Entry.{entry_of, IsEntryWithin}
use Rattle.rule_store.specs.Log.{log_of}
use Rattle.rule_store.specs.View.{RulesView}
use Rattle.rule_store.specs.declared.entry.Entry.{Entry}
use Rattle.rule_store.specs.declared.log_view.LogView.{LogView}
use Rattle.snapshots.specs.Ahead.{stored_entry, AreStored}

-- a symbol of a range of them
pub range-at : (symbols : List ℕ) (from count i : ℕ) → i < count
    → get_or (slice_range symbols from (from + count)) i 0 ≡ get_or symbols (from + i) 0
range-at symbols from count i within =
    get_or-take (from + count - from) (drop from symbols) i 0 (omega arith) ∙ get_or-drop from symbols i 0

-- an entry that was read of a log is that of the stored symbol
pub stored-read : (log : LogView) (rules : RulesView) (from count : ℕ) → log.rules.now ≡ rules → log.from ≡ from → log.len ≡ count
    → (i : ℕ) → i < count → (entry : Entry) → entry ≡ entry_of log.rules.now (get_or (log_of log) i 0)
    → entry ≡ stored_entry rules (from + i)
stored-read log rules from count of begins long i within entry is =
    is ∙ ap (λ (r : RulesView). entry_of r (get_or (slice_range r.symbols log.from (log.from + log.len)) i 0)) of
    ∙ ap (λ f. entry_of rules (get_or (slice_range rules.symbols f (f + log.len)) i 0)) begins
    ∙ ap (λ n. entry_of rules (get_or (slice_range rules.symbols from (from + n)) i 0)) long
    ∙ ap (entry_of rules) (range-at rules.symbols from count i within)

-- no entry
pub stored-none : (rules : RulesView) (entries : List Entry) (from : ℕ) → AreStored rules entries from 0
stored-none rules entries from i d below = absurd (omega arith)

-- one entry more
pub stored-more : (rules : RulesView) (entries : List Entry) (from count : ℕ) (entry : Entry)
    → AreStored rules entries from count → count < length entries → entry ≡ stored_entry rules (from + count)
    → IsEntryWithin entry → AreStored rules (set entries count entry) from (count + 1)
stored-more rules entries from count entry before within is reach i d below = elim (cases_lt i count) [
  | inl less ↦
      let its = before i d less in
      let apart : i ≢ count = λ same. omega arith in
      (get_or-set_other entries count i entry d apart ∙ its.0, its.1)
  | inr not ↦
      let here : count ≡ i = omega arith in
      subst (λ j. (get_or (set entries count entry) j d ≡ stored_entry rules (from + j)) × IsEntryWithin (stored_entry rules (from + j))) here
      (get_or-set_same entries count entry d within ∙ is, subst IsEntryWithin is reach)
]

-- The entries of stored symbols one after another, some of which are read before they are asked for.
use Rattle.std.specs.Prelude.{◌≡◌, ℕ, ◌+◌, ◌^◌, ◌<◌, ◌≤◌, List, length, slice_index, slice_index_or}
use Rattle.rule_store.specs.View.{RulesView}
use Rattle.rule_store.specs.Entry.{entry_of, IsEntryWithin}
use Rattle.rule_store.specs.declared.entry.Entry.{Entry}

-- the rules, the place of the next symbol, the place behind those that were read, and the end
pub record AheadView : Type 0 where
  pub rules : RulesView
  pub place : ℕ
  pub read : ℕ
  pub end : ℕ

-- the view with these rules and places
abbrev pub ahead_view : RulesView → ℕ → ℕ → ℕ → AheadView
ahead_view rules place read end = record { rules = rules; place = place; read = read; end = end }

-- the entry of the stored symbol at a place
abbrev pub stored_entry : RulesView → ℕ → Entry
stored_entry rules place = entry_of rules (slice_index rules.symbols place)

-- the first entries of a table are those of so many stored symbols from a place on
abbrev pub AreStored : RulesView → List Entry → ℕ → ℕ → Type 0
AreStored rules entries from count = (i : ℕ) (d : Entry) → i < count
    → (slice_index_or entries i d ≡ stored_entry rules (from + i)) × IsEntryWithin (stored_entry rules (from + i))

-- a table has the entries of the symbols that were read last, among which the next one is, or behind which it comes
pub record IsAhead (rules : RulesView) (entries : List Entry) (first place read end : ℕ) : Type 0 where
  pub count : ℕ
  pub few : count ≤ 16
  pub last : read ≡ first + count
  pub begun : first ≤ place
  pub ended : place ≤ read
  pub within : read ≤ end
  pub all : end ≤ length rules.symbols
  pub short : length rules.symbols < 2 ^ 32
  pub stored : AreStored rules entries first count

-- symbols were read on, and of the rest only the next place has changed
pub record IsReadOn (old new : AheadView) (before after : ℕ) : Type 0 where
  pub rules_are : new.rules ≡ old.rules
  pub end_is : new.end ≡ old.end
  pub later : old.read ≤ new.read
  pub within : new.read ≤ new.end
  pub reads : after + old.read ≤ before + new.read

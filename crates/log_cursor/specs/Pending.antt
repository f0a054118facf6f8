-- Symbols that are still to be walked over, the next one first.
use Rattle.std.specs.Prelude.{◌≡◌, ℕ, ◌+◌, ◌<◌, ◌≤◌, List, ◌∷◌, ◌++◌, length, drop, reverse, slice_index}
use Rattle.rule_store.specs.View.{RulesView, symbols_in}
use Rattle.rule_store.specs.Expansion.{depth_in, depth_of}
use Rattle.rule_store.specs.Entry.{entry_of}
use Rattle.rule_store.specs.Flaws.{AreRules}
use Rattle.rule_store.specs.Log.{log_of}
use Rattle.rule_store.specs.Needs.{places_of}
use Rattle.rule_store.specs.declared.entry.Entry.{Entry}
use Rattle.rule_store.specs.declared.log_view.LogView.{LogView}

-- the rules, where the symbols of the log stand, those that are still to come, how many of them are still to be read, and
-- how many are the parts of rules that were opened
pub record PendingView : Type 0 where
  pub rules : RulesView
  pub places : ℕ × ℕ
  pub symbols : List ℕ
  pub unread : ℕ
  pub depth : ℕ

-- what follows a place of a log
abbrev pub log_from : LogView → ℕ → List ℕ
log_from view next = drop next (log_of view)

-- the parts of opened rules, the last one first, and then the rest of the log
abbrev pub pending_of : LogView → ℕ → List ℕ → PendingView
pending_of view next stack = record {
  rules = view.rules.now;
  places = places_of view;
  symbols = reverse stack ++ log_from view next;
  unread = length (log_from view next);
  depth = length stack;
}

-- a symbol is known, and so shallow that its parts still find room above so many others
pub record IsRoomy (rules : RulesView) (place symbol : ℕ) : Type 0 where
  pub known : symbol < symbols_in rules
  pub shallow : place + depth_of rules symbol ≤ depth_in rules

-- each part of opened rules is known, and shallow enough for its place
pub record AreRoomy (rules : RulesView) (stack : List ℕ) : Type 0 where
  pub each : (place : ℕ) → place < length stack → IsRoomy rules place (slice_index stack place)

-- the parts of pending symbols belong together
pub record IsPending (view : LogView) (next : ℕ) (stack : List ℕ) (capacity : ℕ) : Type 0 where
  pub sound : AreRules view.rules.now
  pub within : next ≤ length (log_of view)
  pub stack_is : AreRoomy view.rules.now stack
  pub room : depth_in view.rules.now + 1 ≤ capacity

-- the next symbol was taken off, and this is its entry
pub record IsTaken (before now : PendingView) (entry : Entry) : Type 0 where
  pub is : entry ≡ entry_of before.rules entry.symbol
  pub symbols : before.symbols ≡ entry.symbol ∷ now.symbols
  pub roomy : IsRoomy before.rules now.depth entry.symbol

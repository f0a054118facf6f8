-- The summary of a symbol, taken over the values that it stands for.
use Rattle.std.specs.Prelude.{ℕ, ◌^◌, ◌≤◌, ◌≤ℤ◌, pos, neg_ℤ, List, length, IfSome}
use Rattle.track_types.specs.Near.{IsBoxWithin}
use Rattle.track_types.specs.declared.limit.TheConstants.{MAX_PERIOD}
use Rattle.rule_store.specs.View.{RulesView}
use Rattle.rule_store.specs.Expansion.{expansion_of, values_of}
use Rattle.rule_store.specs.Cells.{displacement_of}
use Rattle.rule_store.specs.Boxes.{bounding_box_of}
use Rattle.rule_store.specs.declared.entry.Entry.{Entry}

-- how many instants a symbol stands for
unfoldable pub duration_of : RulesView → ℕ → ℕ
duration_of view symbol = length (expansion_of view symbol)

-- the entry of a symbol that stands for these values
abbrev pub entry_with : ℕ → List ℕ → Entry
entry_with symbol values = record {
  symbol = symbol;
  duration = length values;
  dx = (displacement_of values).0;
  dy = (displacement_of values).1;
  hull = bounding_box_of values;
}

-- the entry of a symbol
unfoldable pub entry_of : RulesView → ℕ → Entry
entry_of view symbol = entry_with symbol (values_of view symbol)

-- how far an entry reaches at most, whatever its rules: its displacement and its duration fit 32 bits
pub record IsEntryWithin (entry : Entry) : Type 0 where
  pub left : neg_ℤ (pos (2 ^ 31)) ≤ℤ entry.dx
  pub right : entry.dx ≤ℤ pos (2 ^ 31)
  pub below : neg_ℤ (pos (2 ^ 31)) ≤ℤ entry.dy
  pub above : entry.dy ≤ℤ pos (2 ^ 31)
  pub short : entry.duration ≤ MAX_PERIOD
  pub hull : IfSome entry.hull IsBoxWithin

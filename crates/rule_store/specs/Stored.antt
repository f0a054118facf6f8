-- What a rule store keeps of each symbol, packed into 32 bytes or 16, and how its entries follow from its rules.
use Rattle.std.specs.Prelude.{◌≡◌, ℕ, ◌^◌, ◌<◌, ◌≤◌, ◌<ℤ◌, List, length, get_or, map, Option, Some, None}
use Rattle.track_types.specs.declared.cell_box.CellBox.{CellBox}
use Rattle.rule_store.specs.View.{RulesView, rules_with, symbols_in}
use Rattle.rule_store.specs.Expansion.{depth_in, depth_of, values_of}
use Rattle.rule_store.specs.Cells.{displacement_of}
use Rattle.rule_store.specs.Boxes.{bounding_box_of}
use Rattle.rule_store.specs.Flaws.{AreRules, left_of, right_of}
use Rattle.rule_store.specs.declared.narrow_entry.NarrowEntry.{NarrowEntry}
use Rattle.rule_store.specs.declared.packed_box.PackedBox.{PackedBox}
use Rattle.rule_store.specs.declared.packed_entries.PackedEntries.{PackedEntries}
use Rattle.rule_store.specs.declared.packed_entries.PackedEntries.TheVariants.{Narrow, Wide}
use Rattle.rule_store.specs.declared.packed_entry.PackedEntry.{PackedEntry}
use Rattle.rule_store.specs.declared.raw_rules.RawRules.{RawRules}

-- the packed bounds are those of the box, and cross where there is none
abbrev pub IsHull : PackedBox → Option CellBox → Type 0
IsHull packed None = packed.x2 <ℤ packed.x1
IsHull packed (Some box) =
    (packed.x1 ≡ box.x1) × (packed.y1 ≡ box.y1) × (packed.x2 ≡ box.x2) × (packed.y2 ≡ box.y2)

-- the entry in 32 bytes that has the numbers of one in 16
abbrev pub wide_entry : NarrowEntry → PackedEntry
wide_entry narrow = record {
  duration = narrow.duration;
  depth = narrow.depth;
  dx = narrow.dx;
  dy = narrow.dy;
  hull = record { x1 = narrow.x1; y1 = narrow.y1; x2 = narrow.x2; y2 = narrow.y2; high = narrow.high };
  short = narrow.short;
  shallow = narrow.shallow;
}

-- the entries of a list, however wide it keeps them
unfoldable pub entries_of : PackedEntries → List PackedEntry
entries_of (Narrow entries) = map wide_entry entries.items
entries_of (Wide entries) = entries.items

-- the packed entry is that of a symbol which stands for these values
pub record IsPackedEntry (values : List ℕ) (packed : PackedEntry) : Type 0 where
  pub duration : packed.duration ≡ length values
  pub dx : packed.dx ≡ (displacement_of values).0
  pub dy : packed.dy ≡ (displacement_of values).1
  pub hull : IsHull packed.hull (bounding_box_of values)

-- the packed entry is that of a symbol of the rules
pub record IsEntryOf (view : RulesView) (symbol : ℕ) (packed : PackedEntry) : Type 0 where
  pub values : IsPackedEntry (values_of view symbol) packed
  pub depth : packed.depth ≡ depth_of view symbol
  pub shallow : packed.depth ≤ symbol

-- the packed entries are those of the first symbols
pub record AreEntries (view : RulesView) (entries : List PackedEntry) : Type 0 where
  pub each : (symbol : ℕ) (other : PackedEntry) → symbol < length entries →
      IsEntryOf view symbol (get_or entries symbol other)

-- no symbol is deeper than its number
abbrev pub AreShallow : List PackedEntry → Type 0
AreShallow entries = (k : ℕ) (other : PackedEntry) → k < length entries → (get_or entries k other).depth ≤ k

-- the lists that are judged
abbrev pub rules_view : RawRules → RulesView
rules_view raw = rules_with raw.alphabet.now raw.rules.now raw.symbols.now raw.height raw.period

-- what a rule store keeps beside its lists: an entry for each symbol, and the height of the grammar
pub record AreStoredRules (view : RulesView) (entries : List PackedEntry) (depth : ℕ) : Type 0 where
  pub rules : AreRules view
  pub many : length entries ≡ symbols_in view
  pub entries_are : AreEntries view entries
  pub depth_is : depth ≡ depth_in view
  pub depth_fits : depth ≤ 2 ^ 26

-- what is read of a rule: the parts of a symbol, which are below it
pub record IsReadRule (view : RulesView) (symbol : ℕ) (parts : ℕ × ℕ) : Type 0 where
  pub left : left_of view symbol ≡ parts.0
  pub right : right_of view symbol ≡ parts.1
  pub left_below : parts.0 < symbol
  pub right_below : parts.1 < symbol

-- The nearest that are kept, as entries of an ordered map and in order.
use Rattle.std.specs.Prelude.{ℕ, ◌≤◌, List, length, map}
use Rattle.track_types.specs.declared.cell.Cell.{Cell}
use Rattle.track_types.specs.declared.near.Near.{Near}

-- how many are wanted, and those that are kept
pub record ClosestView : Type 0 where
  pub wanted : ℕ
  pub nears : List Near

-- the object of an entry: its rank is its squared distance, then its number
abbrev pub entry_near : (ℕ × ℕ) × Cell → Near
entry_near entry = record { object = entry.0.1; cell = entry.1; dist2 = entry.0.0 }

-- the objects of all entries
abbrev pub kept_nears : List ((ℕ × ℕ) × Cell) → List Near
kept_nears entries = map entry_near entries

-- no more are kept than are wanted
pub record KeepsAtMost (wanted : ℕ) (entries : List ((ℕ × ℕ) × Cell)) : Type 0 where
  pub few : length entries ≤ wanted

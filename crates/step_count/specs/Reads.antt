-- Which reads there are, and which of them may be made
use Rattle.std.specs.Prelude.{ℕ, ◌==◌, Bool, false, IsTrue}

-- a read by what it is of: a period's snapshot or the tracks kept of it, the parts of a rule, or the stored symbol at a
-- place
pub data Read : Type 0 where
  ofPeriod : ℕ → Read
  ofRule : ℕ → Read
  ofSymbol : ℕ → Read

-- a read is of this period
abbrev pub is_of_period : ℕ → Read → Bool
is_of_period number (ofPeriod period) = period == number
is_of_period number (ofRule rule) = false
is_of_period number (ofSymbol place) = false

-- each of these reads is one of those
abbrev pub ReadsWithin : (Read → Bool) → (Read → Bool) → Type 0
ReadsWithin these those = (read : Read) → IsTrue (these read) → IsTrue (those read)

-- every read may be made
abbrev pub AllMay : (Read → Bool) → Type 0
AllMay may = (read : Read) → IsTrue (may read)

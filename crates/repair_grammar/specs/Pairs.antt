-- What is kept of pairs: how often each counts, where it was seen, and which have come to count.
use Rattle.std.specs.Prelude.{◌⊎◌, ℕ, ◌<◌, ◌&&◌, nat_eq, Option, Some, None, List, []}
use Rattle.std.specs.HashMap.{HashMap, get}
use Rattle.std.specs.List.{Contains}
use Rattle.repair_grammar.specs.declared.pairs.Seen.{Seen}
use Rattle.repair_grammar.specs.declared.pairs.Pairs.{Pairs}

-- the count of an entry, if there is one
unfoldable pub count_in_entry : Option Seen → ℕ
count_in_entry None = 0
count_in_entry (Some seen) = seen.count

-- the places of an entry, if there is one
unfoldable pub places_in_entry : Option Seen → List ℕ
places_in_entry None = []
places_in_entry (Some seen) = seen.places.items

-- the entry of a pair
abbrev pub seen_entry : {S : Type 0} → HashMap (ℕ × ℕ) Seen S → ℕ × ℕ → Option Seen
seen_entry table pair = get (λ x y. nat_eq x.0 y.0 && nat_eq x.1 y.1) table pair

-- how often a pair counts by a table
abbrev pub count_in_table : {S : Type 0} → HashMap (ℕ × ℕ) Seen S → ℕ × ℕ → ℕ
count_in_table table pair = count_in_entry (seen_entry table pair)

-- the places that a table has for a pair
abbrev pub places_in_table : {S : Type 0} → HashMap (ℕ × ℕ) Seen S → ℕ × ℕ → List ℕ
places_in_table table pair = places_in_entry (seen_entry table pair)

-- how often a pair counts
abbrev pub count_of : Pairs → ℕ × ℕ → ℕ
count_of pairs pair = count_in_table pairs.table pair

-- the places that are noted for a pair
abbrev pub places_of : Pairs → ℕ × ℕ → List ℕ
places_of pairs pair = places_in_table pairs.table pair

-- what has come to count is fresh
pub record HasCome (old new : Pairs) : Type 0 where
  pub kept : (pair : ℕ × ℕ) → Contains old.fresh.items pair → Contains new.fresh.items pair
  pub came : (pair : ℕ × ℕ) → 0 < count_of new pair → (0 < count_of old pair) ⊎ Contains new.fresh.items pair

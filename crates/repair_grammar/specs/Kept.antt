-- The keys that are kept between rounds, and what one step counts.
use Rattle.std.specs.Prelude.{◌≡◌, ◌⊎◌, ℕ, ◌<◌, ◌≤◌, cond, if◌then◌else◌, Option, Some, None, List, [], ◌∷◌}
use Rattle.std.specs.List.{Contains}
use Rattle.std.specs.BinaryHeap.{heap_items}
use Rattle.repair_grammar.specs.declared.key.Key.{Key}
use Rattle.repair_grammar.specs.declared.keys.Keys.{Keys}
use Rattle.repair_grammar.specs.RePair.{is_pair}

-- how often a pair is the one that a step counts, if it counts one
unfoldable pub times_of : Option (ℕ × ℕ) → ℕ × ℕ → ℕ
times_of None pair = 0
times_of (Some other) pair = cond (is_pair pair other.0 other.1) 1 0

-- the places that a step notes for a pair: its place, if the pair is the one that it notes
abbrev pub noted_at : Option (ℕ × ℕ) → ℕ → ℕ × ℕ → List ℕ
noted_at None place pair = []
noted_at (Some other) place pair = if is_pair pair other.0 other.1 then place ∷ [] else []

-- the keys, in no order
abbrev pub keys_in : Keys → List Key
keys_in keys = heap_items keys.heap

-- each pair that counts two has a key that says at least its count
unfoldable pub Covers : (ℕ × ℕ → ℕ) → List Key → Type 0
Covers count keys = (pair : ℕ × ℕ) → 1 < count pair →
    (key : Key) × Contains keys key × (key.pair ≡ pair) × (count pair ≤ key.count)

-- each pair that counts two has a key that says at least its count, but for the pairs of a list
unfoldable pub CoversBut : List (ℕ × ℕ) → (ℕ × ℕ → ℕ) → List Key → Type 0
CoversBut fresh count keys = (pair : ℕ × ℕ) → 1 < count pair → Contains fresh pair
    ⊎ ((key : Key) × Contains keys key × (key.pair ≡ pair) × (count pair ≤ key.count))

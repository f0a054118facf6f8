-- What the body keeps: blocks as vectors, and the counts of pairs in a map.
use Rattle.std.specs.Prelude.{◌≡◌, ℕ, ◌<◌, ◌≤◌, Bool, false, ◌&&◌, if◌then◌else◌, nat_eq, nat_lt, unwrap_or, Option, Some, None, List, [], ◌∷◌, map}
use Rattle.std.specs.HashMap.{HashMap, get}
use Rattle.std.specs.Ordering.{is_lt}
use Rattle.std.specs.Global.{Vec}
use Rattle.repair_grammar.specs.declared.key.Key.{Key}
use Rattle.repair_grammar.specs.RePair.{key_order, is_pair, replacement_count}

-- the lists that vectors contain
abbrev pub lists_of : List (Vec ℕ) → List (List ℕ)
lists_of vecs = map (λ vec. vec.items) vecs

-- equality of pairs, part by part
abbrev pub pair_eq : ℕ × ℕ → ℕ × ℕ → Bool
pair_eq a b = nat_eq a.0 b.0 && nat_eq a.1 b.1

-- how often a pair counts by the map, in which a pair without an entry counts 0
abbrev pub count_in : {S : Type 0} → HashMap (ℕ × ℕ) ℕ S → ℕ × ℕ → ℕ
count_in counts pair = unwrap_or (get (λ x y. nat_eq x.0 y.0 && nat_eq x.1 y.1) counts pair) 0

-- no pair counts two
abbrev pub AllBelowTwo : (ℕ × ℕ → ℕ) → Type 0
AllBelowTwo count = (pair : ℕ × ℕ) → count pair < 2

-- the pair counts two or more, and none is taken before it
pub record IsFirst (count : ℕ × ℕ → ℕ) (pair : ℕ × ℕ) : Type 0 where
  pub two : 2 ≤ count pair
  pub first : (other : ℕ × ℕ) → is_lt (key_order (record { count = count other; pair = other })
      (record { count = count pair; pair = pair })) ≡ false

-- the entry of a map as a key
abbrev pub key_at : (ℕ × ℕ) × ℕ → Key
key_at entry = record { count = entry.1; pair = entry.0 }

-- whichever of two keys is taken first
abbrev pub earlier_of : Option Key → Key → Key
earlier_of None key = key
earlier_of (Some first) key = if is_lt (key_order key first) then key else first

-- the first of the entries that count two or more, and of a key that stood before them
unfoldable pub first_repeated : Option Key → List ((ℕ × ℕ) × ℕ) → Option Key
first_repeated first [] = first
first_repeated first (entry ∷ entries) =
    first_repeated (if nat_lt 1 entry.1 then Some (earlier_of first (key_at entry)) else first) entries

-- what a pass still meets from a symbol on, where the pair of this symbol and the one before it, which was
-- the same, may have been taken
unfoldable pub met_after : Bool → ℕ × ℕ → List ℕ → ℕ
met_after taken pair [] = 0
met_after taken pair (left ∷ rest) =
    if taken && is_pair pair left left then replacement_count pair rest else replacement_count pair (left ∷ rest)

-- whether the pair stands at the front
unfoldable pub stands_first : ℕ × ℕ → List ℕ → Bool
stands_first pair (left ∷ right ∷ rest) = is_pair pair left right
stands_first pair block = false

-- The order of a period's blocks by their leaves.
use Rattle.std.specs.Prelude.{ℕ, ◌==◌, Bool, true, not, List, [], ◌∷◌, length, map, slice_index}
use Rattle.std.specs.List.{dedup, range_with_len}
use Rattle.std.specs.Ordering.{nat_cmp}
use Rattle.std.specs.declared.cmp.Ordering.{Ordering}
use Rattle.list_laws.specs.Ordered.{ordered}

-- the order of places by the number that each has
abbrev pub by_code : List ℕ → ℕ → ℕ → Ordering
by_code codes a b = nat_cmp (slice_index codes a) (slice_index codes b)

-- the places in the order of their numbers; those of one number keep their order
unfoldable pub leaf_order : List ℕ → List ℕ
leaf_order codes = ordered (by_code codes) (range_with_len 0 (length codes))

-- the numbers in order, each as often as it stands
unfoldable pub leaf_codes : List ℕ → List ℕ
leaf_codes codes = map (slice_index codes) (leaf_order codes)

-- the numbers in order, each once
unfoldable pub distinct_codes : List ℕ → List ℕ
distinct_codes codes = dedup (λ a b. a == b) (leaf_codes codes)

-- whether each of the numbers is the last before another one
unfoldable pub ends_of : List ℕ → List Bool
ends_of [] = []
ends_of (code ∷ []) = true ∷ []
ends_of (code ∷ next ∷ codes) = not (code == next) ∷ ends_of (next ∷ codes)

-- Permutations of places, and what is wrong with a list that is none.
use Rattle.std.specs.Prelude.{◌≡◌, ℕ, ◌<◌, Bool, ◌||◌, ◌==◌, nat_le, List, length, take, find, Option, slice_index}
use Rattle.std.specs.List.{list_any, position_or_len, range_with_len}

-- the list is a permutation of 0 to its length - 1: every value is below the length, and none stands at two places
pub record PermutesPlaces (values : List ℕ) : Type 0 where
  pub within : (i : ℕ) → i < length values → slice_index values i < length values
  pub apart : (i j : ℕ) → i < length values → j < length values → slice_index values i ≡ slice_index values j → i ≡ j

-- the value at the place stands at an earlier place too
abbrev pub stood_before : List ℕ → ℕ → Bool
stood_before values place = list_any (λ value. value == slice_index values place) (take place values)

-- the value at the place is too great, or stood before
abbrev pub is_flawed : List ℕ → ℕ → Bool
is_flawed values place = nat_le (length values) (slice_index values place) || stood_before values place

-- the first place whose value is too great or stood before
abbrev pub first_flawed_place : List ℕ → Option ℕ
first_flawed_place values = find (is_flawed values) (range_with_len 0 (length values))

-- the place where the value stands first, which is its only one in a permutation
abbrev pub inverse_of : List ℕ → ℕ → ℕ
inverse_of values v = position_or_len (λ value. value == v) values

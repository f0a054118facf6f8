-- Walks along the cycles of a permutation.
use Rattle.std.specs.Prelude.{ℕ, zero, suc, List, slice_index}

-- where a walk of so many moves ends that goes from each place to the value there
unfoldable pub along : List ℕ → ℕ → ℕ → ℕ
along values zero place = place
along values (suc moves) place = slice_index values (along values moves place)

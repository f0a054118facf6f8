-- How bits grow from level to level, and what is left of them for the last word.
use Rattle.std.specs.Prelude.{ℕ, ◌+◌, ◌^◌, ◌<◌, ◌≤◌, Bool, List, [], ◌∷◌, ◌++◌}
use Rattle.k2_tree.specs.Widths.{digits_in}
use Rattle.k2_tree.specs.TreeBits.{level_bits}

-- the bits of levels of these widths that stand above squares with n digits below them
unfoldable pub levels_bits : List ℕ → ℕ → List ℕ → List Bool
levels_bits [] n codes = []
levels_bits (width ∷ widths) n codes = level_bits width (digits_in widths + n) codes ++ levels_bits widths n codes

-- so many bits, at most a word's, spell the number
pub record IsLast (last filled : ℕ) : Type 0 where
  pub within : filled ≤ 64
  pub small : last < 2 ^ filled

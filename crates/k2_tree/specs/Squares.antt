-- The squares of a k2-tree: the prefixes of its cells' Morton numbers, numbered level by level from 0.
use Rattle.std.specs.Prelude.{◌≡◌, ℕ, ◌+◌, ◌*◌, ◌<◌, List, [], ◌∷◌, ◌++◌, length, map, slice_index}
use Rattle.k2_tree.specs.Widths.{digits_in, fan_of}
use Rattle.k2_tree.specs.TreeBits.{prefixes}

-- a square: how many digits of its cells' Morton numbers are dropped, and the prefix that is left
pub record Node : Type 0 where
  pub level : ℕ
  pub prefix : ℕ

-- the square of a level with this prefix
abbrev pub node : ℕ → ℕ → Node
node level prefix = record { level = level; prefix = prefix }

-- the squares of a level that hold a number, in ascending order
abbrev pub level_squares : ℕ → List ℕ → List Node
level_squares n codes = map (node n) (prefixes n codes)

-- the squares that hold a number, of the top and of each of these levels down to the cells
unfoldable pub squares_from : List ℕ → List ℕ → List Node
squares_from [] codes = level_squares 0 codes
squares_from (width ∷ widths) codes = level_squares (width + digits_in widths) codes ++ squares_from widths codes

-- how many squares stand above those with n digits below them, where these levels lie between the top and them
unfoldable pub squares_above : List ℕ → ℕ → List ℕ → ℕ
squares_above [] n codes = 0
squares_above (width ∷ widths) n codes =
    length (prefixes (width + (digits_in widths + n)) codes) + squares_above widths n codes

-- how many bits these levels have
unfoldable pub bits_above : List ℕ → ℕ → List ℕ → ℕ
bits_above [] n codes = 0
bits_above (width ∷ widths) n codes =
    fan_of width * length (prefixes (width + (digits_in widths + n)) codes) + bits_above widths n codes

-- the square of a prefix, with levels above and below it, has this number: so many stand above and before it
pub record IsSquare (above below codes : List ℕ) (prefix number : ℕ) : Type 0 where
  pub place : ℕ
  pub within : place < length (prefixes (digits_in below) codes)
  pub stands : slice_index (prefixes (digits_in below) codes) place ≡ prefix
  pub counted : number ≡ squares_above above (digits_in below) codes + place

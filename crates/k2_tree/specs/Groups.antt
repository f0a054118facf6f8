-- Where the bits of a square's children stand: a group of sixteen for each square that is split in sixteen, and then
-- one of four for each that is split in four.
use Rattle.std.specs.Prelude.{ℕ, zero, suc, ◌+◌, ◌-◌, ◌*◌, ◌/◌, ◌%◌, nat_lt, if◌then◌else◌, Bool, List, take, drop}
use Rattle.packed_bits.specs.Bits.{ones_of}
use Rattle.k2_tree.specs.Widths.{levels_with}
use Rattle.k2_tree.specs.Squares.{squares_above}

-- how many squares are split in sixteen: those of the upper levels
abbrev pub upper_squares : ℕ → ℕ → List ℕ → ℕ
upper_squares height wide codes = squares_above (levels_with 2 wide) (height - 2 * wide) codes

-- where the children of the square with this number start, where so many are split in sixteen
unfoldable pub group_start : ℕ → ℕ → ℕ
group_start upper square = if nat_lt square upper then 16 * square else 16 * upper + 4 * (square - upper)

-- the square in whose group a place is
unfoldable pub square_at : ℕ → ℕ → ℕ
square_at upper place = if nat_lt place (16 * upper) then place / 16 else upper + (place - 16 * upper) / 4

-- which of its children stands there
unfoldable pub digit_at : ℕ → ℕ → ℕ
digit_at upper place = if nat_lt place (16 * upper) then place % 16 else (place - 16 * upper) % 4

-- the width of the level below the square with this number
abbrev pub square_width : ℕ → ℕ → ℕ
square_width upper square = if nat_lt square upper then 2 else 1

-- how many squares are split in sixteen, counted from the bits of so many levels; the first level has so many groups
unfoldable pub upper_in : ℕ → ℕ → List Bool → ℕ
upper_in zero groups bits = 0
upper_in (suc wide) groups bits =
    groups + upper_in wide (ones_of (take (16 * groups) bits)) (drop (16 * groups) bits)

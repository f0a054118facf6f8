-- The levels of a tree, each given by its width: how many more digits to base 4 its squares have than the squares above.
-- A level of width 1 splits each square in four, one of width 2 in sixteen.
use Rattle.std.specs.Prelude.{ℕ, zero, suc, ◌+◌, ◌-◌, ◌*◌, ◌/◌, ◌^◌, nat_lt, if◌then◌else◌, List, [], ◌∷◌, ◌++◌}

-- a digit splits a square in so many on either side
abbrev pub side : ℕ
side = 2

-- a digit splits a square in so many
abbrev pub fan : ℕ
fan = side * side

-- a level of this width splits a square in so many
abbrev pub fan_of : ℕ → ℕ
fan_of width = fan ^ width

-- so many levels of one width
unfoldable pub levels_with : ℕ → ℕ → List ℕ
levels_with width zero = []
levels_with width (suc n) = width ∷ levels_with width n

-- the widths of a tree's levels from the top: so many upper ones take two digits each, and the others one
abbrev pub widths_of : ℕ → ℕ → List ℕ
widths_of height wide = levels_with 2 wide ++ levels_with 1 (height - 2 * wide)

-- how many digits levels take together
unfoldable pub digits_in : List ℕ → ℕ
digits_in [] = 0
digits_in (width ∷ widths) = width + digits_in widths

-- the width of the level below a square with n digits below it, where the last levels, of so many digits in all, take
-- one each
abbrev pub width_below : ℕ → ℕ → ℕ
width_below low n = if nat_lt (low + 1) n then 2 else 1

-- the widths of all levels below it
abbrev pub widths_under : ℕ → ℕ → List ℕ
widths_under low n = widths_of n ((n - low) / 2)

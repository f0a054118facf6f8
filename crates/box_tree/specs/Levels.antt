-- Levels of squares. A level is given by the number of digits to base 4 that it takes: 1 where a square has two columns
-- and two rows of children, 2 where it has four of each. A list of levels goes from the one below a square down to the
-- cells.
use Rattle.std.specs.Prelude.{ℕ, ◌+◌, ◌-◌, ◌*◌, ◌^◌, Bool, nat_lt, if◌then◌else◌, List, [], ◌∷◌, filter}
use Rattle.std.specs.List.{range_with_len, sum_by}
use Rattle.k2_tree.specs.Pruning.{place_among}
use Rattle.k2_tree.specs.Squares.{Node, node}

-- how many digits are below a square with these levels
abbrev pub digits : List ℕ → ℕ
digits [] = 0
digits (level ∷ levels) = level + digits levels

-- where the numbers of the square with this prefix begin among ascending ones; n digits are below it
unfoldable pub square_start : List ℕ → ℕ → ℕ → ℕ
square_start codes n prefix = place_among codes (prefix * 4 ^ n)

-- the places of a square
unfoldable pub run : List ℕ → ℕ → ℕ → List ℕ
run codes n prefix = range_with_len (square_start codes n prefix) (square_start codes n (prefix + 1) - square_start codes n prefix)

-- whether a square holds a number
unfoldable pub is_held : List ℕ → ℕ → ℕ → Bool
is_held codes n prefix = nat_lt (square_start codes n prefix) (square_start codes n (prefix + 1))

-- the children that hold a number of a square that is split by a level; they have n digits below them
unfoldable pub children : List ℕ → ℕ → ℕ → ℕ → List ℕ
children codes n level prefix = filter (is_held codes n) (range_with_len (4 ^ level * prefix) (4 ^ level))

-- how many squares within one pass a test, itself counted, where it holds a number
unfoldable pub squares_in : (Node → Bool) → List ℕ → List ℕ → ℕ → ℕ
squares_in test codes [] prefix = if test (node 0 prefix) then 1 else 0
squares_in test codes (level ∷ levels) prefix =
    (if test (node (level + digits levels) prefix) then 1 else 0)
    + sum_by (squares_in test codes levels) (children codes (digits levels) level prefix)

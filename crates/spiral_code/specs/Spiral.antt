-- The spiral: each ring is the list of its movements, side by side, and a movement's code is its place in
-- the lists of all rings. Both directions look into these lists: neither works out a side, how far along
-- it a movement lies, or a square root, as the code does.
use Rattle.std.specs.Prelude.{ℕ, zero, suc, ◌+◌, ◌-◌, ◌*◌, max, ℤ, pos, neg_ℤ, ◌+ℤ◌, ◌-ℤ◌, unsigned_abs, Bool, ◌&&◌, nat_lt, List, [], ◌∷◌, ◌++◌, map, slice_index_or}
use Rattle.std.specs.List.{range_with_len, position_or_len}
use Rattle.std.specs.Ordering.{int_eq}
use Rattle.spiral_code.specs.declared.ring_place.Side.{Side}
use Rattle.spiral_code.specs.declared.ring_place.Side.TheVariants.{East, North, West, South}

-- the ring of a movement: its Chebyshev norm, the greater of its two distances
abbrev pub ring_of : ℤ → ℤ → ℕ
ring_of dx dy = max (unsigned_abs dx) (unsigned_abs dy)

-- the movement at place i of a side of ring r: up the east side, then to the left, down, to the right
abbrev pub move_at : ℕ → Side → ℕ → ℤ × ℤ
move_at r East i = (pos r, neg_ℤ (pos r) +ℤ pos (1 + i))
move_at r North i = (pos r -ℤ pos (1 + i), pos r)
move_at r West i = (neg_ℤ (pos r), pos r -ℤ pos (1 + i))
move_at r South i = (neg_ℤ (pos r) +ℤ pos (1 + i), neg_ℤ (pos r))

-- the 2r movements of a side of ring r, in the order of their codes
unfoldable pub side_moves : ℕ → Side → List (ℤ × ℤ)
side_moves r side = map (move_at r side) (range_with_len 0 (2 * r))

-- the movements of ring r in the order of their codes: those of its sides, and in ring 0 the zero movement
unfoldable pub ring_moves : ℕ → List (ℤ × ℤ)
unfolding side_moves
ring_moves zero = (pos 0, pos 0) ∷ []
ring_moves (suc n) = let r = suc n in
    side_moves r East ++ side_moves r North ++ side_moves r West ++ side_moves r South

-- n times n
abbrev pub square : ℕ → ℕ
square n = n * n

-- the first code of ring r: the square of 2r - 1, and 0 for ring 0
abbrev pub first_code : ℕ → ℕ
first_code r = square (2 * r - 1)

-- whether m is the movement (dx, dy)
abbrev pub is_move : ℤ → ℤ → ℤ × ℤ → Bool
is_move dx dy m = int_eq m.0 dx && int_eq m.1 dy

-- the code of a movement: the first code of its ring, and its place among the movements of the ring
unfoldable pub code_of : ℤ → ℤ → ℕ
unfolding ring_moves
code_of dx dy = let r = ring_of dx dy in
    first_code r + position_or_len (is_move dx dy) (ring_moves r)

-- the ring of a code: the first one whose next ring begins above the code
unfoldable pub ring_of_code : ℕ → ℕ
ring_of_code code =
    position_or_len (λ r. nat_lt code (first_code (suc r))) (range_with_len 0 (suc code))

-- the movement of a code: the one at the code's place among the movements of its ring
unfoldable pub move_of : ℕ → ℤ × ℤ
unfolding ring_of_code ring_moves
move_of code = let r = ring_of_code code in
    slice_index_or (ring_moves r) (code - first_code r) (pos 0, pos 0)

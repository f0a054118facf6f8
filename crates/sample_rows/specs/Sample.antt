-- The rows of a sample. What is drawn for an object at an instant is found by the number of that draw, and its place by
-- its own draws alone: no other object's are followed.
use Rattle.std.specs.Prelude.{ℕ, zero, suc, ◌+◌, ◌-◌, ◌*◌, ◌/◌, ◌%◌, ◌^◌, min, pos, Bool, ◌==◌, if◌then◌else◌, List, [], ◌∷◌}
use Rattle.std.specs.List.{flat_map, range_with_len}
use Rattle.track_types.specs.declared.raw_row.RawRow.{RawRow}
use Rattle.sample_rows.specs.declared.spot.Spot.{Spot}

-- the generator's state after a draw; 64 bits of it are kept
abbrev pub next_state : ℕ → ℕ
next_state state = (state * 6364136223846793005 + 1442695040888963407) % 2 ^ 64

-- the generator's state after so many draws from a seed
unfoldable pub state_after : ℕ → ℕ → ℕ
state_after seed zero = seed
state_after seed (suc draws) = next_state (state_after seed draws)

-- what a draw gives: the upper 31 bits of the state that it leaves
abbrev pub draw_value : ℕ → ℕ
draw_value state = state / 2 ^ 33

-- What is drawn for an object at the instant after `before`. Each instant but the first has a draw for each object, in
-- their order.
abbrev pub drawn : ℕ → ℕ → ℕ → ℕ → ℕ
drawn objects seed before object = draw_value (state_after seed (before * objects + object + 1))

-- whether an object has no row at an instant, by what is drawn for it
abbrev pub is_absent : ℕ → Bool
is_absent value = value % 16 == 0

-- A coordinate one cell back, as it was, or one cell on, for a third of 0, 1 and 2. It is brought back to 0 or 1,023 where
-- it passed them: what is less than nothing is 0.
abbrev pub shifted : ℕ → ℕ → ℕ
shifted coordinate third = min 1023 (coordinate + third - 1)

-- where an object is after a value was drawn for it: where it was, if it is absent, or moved along each axis
abbrev pub spot_after : ℕ → Spot → Spot
spot_after value spot =
    if is_absent value then spot else record { x = shifted spot.x (value / 16 % 3); y = shifted spot.y (value / 48 % 3) }

-- where an object is at the first instant
abbrev pub first_spot : ℕ → Spot
first_spot object = record { x = 37 * object % 1024; y = 101 * object % 1024 }

-- where an object is at an instant
unfoldable pub spot_at : ℕ → ℕ → ℕ → ℕ → Spot
spot_at objects seed zero object = first_spot object
spot_at objects seed (suc before) object =
    spot_after (drawn objects seed before object) (spot_at objects seed before object)

-- the row of an object that is at a place at an instant
abbrev pub raw_row_of : ℕ → ℕ → Spot → RawRow
raw_row_of instant object spot = record { object = object; time = pos instant; x = pos spot.x; y = pos spot.y }

-- the rows of one object at an instant: one, or none where it is absent, which it is not at the first
unfoldable pub object_rows : ℕ → ℕ → ℕ → ℕ → List RawRow
object_rows objects seed zero object = raw_row_of 0 object (first_spot object) ∷ []
object_rows objects seed (suc before) object =
    if is_absent (drawn objects seed before object) then []
    else raw_row_of (suc before) object (spot_at objects seed (suc before) object) ∷ []

-- the rows of all objects at an instant
unfoldable pub rows_at : ℕ → ℕ → ℕ → List RawRow
rows_at objects seed instant = flat_map (object_rows objects seed instant) (range_with_len 0 objects)

-- the rows of a sample: of so many objects, at so many instants, from a seed
unfoldable pub sample_rows : ℕ → ℕ → ℕ → List RawRow
sample_rows objects instants seed = flat_map (rows_at objects seed) (range_with_len 0 instants)

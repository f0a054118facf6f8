-- The rows of a sample, run on numbers that were worked out by hand.
use Rattle.std.proofs.Common.{◌≡◌, ℕ, pos, [], ◌∷◌, refl}
use Rattle.track_types.specs.declared.raw_row.RawRow.{RawRow}
use Rattle.sample_rows.specs.declared.spot.Spot.{Spot}
use Rattle.sample_rows.specs.Sample.{next_state, object_rows, rows_at, sample_rows, shifted, spot_after}
use Rattle.sample_rows.specs.Sample.{spot_at, state_after, draw_value}

-- a row
abbrev row : ℕ → ℕ → ℕ → ℕ → RawRow
row object instant x y = record { object = object; time = pos instant; x = pos x; y = pos y }

-- a place
abbrev spot : ℕ → ℕ → Spot
spot x y = record { x = x; y = y }

-- the first draw from the seed 0
first_state : next_state 0 ≡ 1442695040888963407
first_state = refl

first_value : draw_value 1442695040888963407 ≡ 167951807
first_value = refl

first_move : spot_after 167951807 (spot 5 7) ≡ spot 6 8
first_move = refl

-- a state has 64 bits
second_state : state_after 0 2 ≡ 1876011003808476466
unfolding state_after
second_state = refl

-- an absence, at a multiple of 16
absence : spot_after 32 (spot 5 7) ≡ spot 5 7
absence = refl

-- both edges, and beside them
edges : shifted 0 0 ∷ shifted 0 1 ∷ shifted 0 2 ∷ shifted 1023 0 ∷ shifted 1023 1 ∷ shifted 1023 2 ∷ []
    ≡ 0 ∷ 0 ∷ 1 ∷ 1022 ∷ 1023 ∷ 1023 ∷ []
edges = refl

-- two objects at one instant, which draw nothing
one_instant : sample_rows 2 1 5 ≡ row 0 0 0 0 ∷ row 1 0 37 101 ∷ []
unfolding sample_rows rows_at object_rows
one_instant = refl

-- one object at four instants
one_object : sample_rows 1 4 0 ≡ row 0 0 0 0 ∷ row 0 1 1 1 ∷ row 0 2 1 2 ∷ row 0 3 0 3 ∷ []
unfolding sample_rows rows_at object_rows spot_at state_after
one_object = refl

-- each object has draws of its own
three_objects : rows_at 3 7 2 ≡ row 0 2 0 1 ∷ row 1 2 38 102 ∷ row 2 2 76 201 ∷ []
unfolding rows_at object_rows spot_at state_after
three_objects = refl

-- an absent object has no row: of these two the second is absent at instant 18
one_absent : rows_at 2 9 18 ≡ row 0 18 0 3 ∷ []
unfolding rows_at object_rows spot_at state_after
one_absent = refl

-- Regions, run on cells and boxes that were worked out by hand.
use Rattle.std.proofs.Common.{◌≡◌, ℤ, pos, negsuc, true, false, [], ◌∷◌, map, refl}
use Rattle.std.specs.Int.Signed.{le_z_yes}
use Rattle.track_types.specs.Region.{in_box, in_region, nearest_cell, squared_distance, intersects_region}
use Rattle.track_types.specs.Widening.{widened}
use Rattle.track_types.specs.declared.cell.Cell.{Cell}
use Rattle.track_types.specs.declared.cell_box.CellBox.{CellBox}
use Rattle.track_types.specs.declared.region.Region.TheVariants.{Any, Rect, Disc}
use Rattle.track_types.specs.declared.shape.Shape.TheVariants as shape

abbrev at : ℤ → ℤ → Cell
at x y = record { x = x; y = y }

a_distance : squared_distance (at (negsuc 0) (pos 2)) (at (pos 2) (negsuc 1)) ≡ 25
a_distance = refl

-- the bounds of a rect are in it
a_rect : map (in_region (Rect (negsuc 1) (pos 0) (pos 3) (pos 0))) (at (negsuc 1) (pos 0) ∷ at (pos 3) (pos 0) ∷ at (pos 4) (pos 0) ∷ at (pos 0) (pos 1) ∷ [])
    ≡ true ∷ true ∷ false ∷ false ∷ []
a_rect = refl

an_inverted_rect : map (in_region (Rect (pos 3) (pos 0) (pos 1) (pos 0))) (at (pos 1) (pos 0) ∷ at (pos 2) (pos 0) ∷ at (pos 3) (pos 0) ∷ []) ≡ false ∷ false ∷ false ∷ []
an_inverted_rect = refl

-- a cell at the very distance of the radius is in a disc
a_disc : map (in_region (Disc (pos 0) (pos 0) 5)) (at (negsuc 2) (pos 4) ∷ at (pos 5) (pos 0) ∷ at (pos 4) (pos 4) ∷ [])
    ≡ true ∷ true ∷ false ∷ []
a_disc = refl

a_disc_of_one_cell : map (in_region (Disc (pos 7) (pos 7) 0)) (at (pos 7) (pos 7) ∷ at (pos 7) (pos 8) ∷ []) ≡ true ∷ false ∷ []
a_disc_of_one_cell = refl

-- the cells of any of two shapes
some_of_two : map (in_region (Any (shape.Rect (pos 2) (pos 0) (pos 2) (pos 0) ∷ shape.Disc (pos 0) (pos 3) 0 ∷ [])))
    (at (pos 2) (pos 0) ∷ at (pos 0) (pos 3) ∷ at (negsuc 1) (pos 0) ∷ [])
    ≡ true ∷ true ∷ false ∷ []
some_of_two = refl

-- the cells -10 to 10 each way
wide : CellBox
wide = record { x1 = negsuc 9; y1 = negsuc 9; x2 = pos 10; y2 = pos 10; wide = le_z_yes tt; high = le_z_yes tt }

-- the cells 3 to 5 each way
near : CellBox
near = record { x1 = pos 3; y1 = pos 3; x2 = pos 5; y2 = pos 5; wide = le_z_yes tt; high = le_z_yes tt }

-- a disc and a rect within a box, all of whose corners are outside
touched_within : map (λ region. intersects_region region wide) (Disc (pos 0) (pos 0) 2 ∷ Rect (pos 1) (pos 1) (pos 2) (pos 2) ∷ []) ≡ true ∷ true ∷ []
unfolding wide
touched_within = refl

-- a disc that ends before a corner, though not before its column and its line, and one that reaches the corner
touched_by_a_corner : map (λ region. intersects_region region near) (Disc (pos 0) (pos 0) 4 ∷ Disc (pos 0) (pos 0) 5 ∷ []) ≡ false ∷ true ∷ []
unfolding near
touched_by_a_corner = refl

-- a rect that crosses a box has none of its corners in it; an inverted one touches nothing
touched_by_a_rect : map (λ region. intersects_region region near) (Rect (pos 0) (pos 4) (pos 9) (pos 4) ∷ Rect (pos 5) (pos 4) (pos 4) (pos 4) ∷ []) ≡ true ∷ false ∷ []
unfolding near
touched_by_a_rect = refl

-- shapes touch a box where some of them does
touched_by_the_second : map (λ region. intersects_region region near)
    (Any (shape.Disc (pos 0) (pos 0) 4 ∷ shape.Rect (pos 0) (pos 4) (pos 9) (pos 4) ∷ []) ∷ Any (shape.Disc (pos 0) (pos 0) 4 ∷ []) ∷ [])
    ≡ true ∷ false ∷ []
unfolding near
touched_by_the_second = refl

-- two cells more on each side of the box reach to 1 and to 7
a_widened_box : map (in_box (widened 2 near)) (at (pos 1) (pos 7) ∷ at (pos 0) (pos 4) ∷ at (pos 4) (pos 8) ∷ []) ≡ true ∷ false ∷ false ∷ []
unfolding near
a_widened_box = refl

the_nearest_of_a_box : map (nearest_cell near) (at (pos 0) (pos 4) ∷ at (pos 9) (negsuc 0) ∷ at (pos 4) (pos 5) ∷ []) ≡ at (pos 3) (pos 4) ∷ at (pos 5) (pos 3) ∷ at (pos 4) (pos 5) ∷ []
unfolding near
the_nearest_of_a_box = refl

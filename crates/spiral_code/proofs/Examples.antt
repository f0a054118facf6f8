-- The spiral, run on the whole of rings 0 to 2 and on some codes further out.
use Rattle.std.proofs.Common.{◌≡◌, ℕ, ℤ, pos, neg_ℤ, List, [], ◌∷◌, ◌++◌, map, refl}
use Rattle.std.specs.List.{range_with_len}
use Rattle.spiral_code.specs.Spiral.{code_of, move_of}

-- a distance to the left, or down
abbrev neg : ℕ → ℤ
neg n = neg_ℤ (pos n)

-- ring 1, from code 1 to code 8
abbrev first_ring : List (ℤ × ℤ)
first_ring = (pos 1, pos 0) ∷ (pos 1, pos 1) ∷ (pos 0, pos 1) ∷ (neg 1, pos 1)
    ∷ (neg 1, pos 0) ∷ (neg 1, neg 1) ∷ (pos 0, neg 1) ∷ (pos 1, neg 1) ∷ []

-- ring 2, from code 9 to code 24
abbrev second_ring : List (ℤ × ℤ)
second_ring = (pos 2, neg 1) ∷ (pos 2, pos 0) ∷ (pos 2, pos 1) ∷ (pos 2, pos 2)
    ∷ (pos 1, pos 2) ∷ (pos 0, pos 2) ∷ (neg 1, pos 2) ∷ (neg 2, pos 2)
    ∷ (neg 2, pos 1) ∷ (neg 2, pos 0) ∷ (neg 2, neg 1) ∷ (neg 2, neg 2)
    ∷ (neg 1, neg 2) ∷ (pos 0, neg 2) ∷ (pos 1, neg 2) ∷ (pos 2, neg 2) ∷ []

-- rings 0 to 2 in the order of their codes, which are 0 to 24
abbrev inner_rings : List (ℤ × ℤ)
inner_rings = (pos 0, pos 0) ∷ first_ring ++ second_ring

inner_codes : map (λ m. code_of m.0 m.1) inner_rings ≡ range_with_len 0 25
unfolding code_of
inner_codes = refl

inner_moves : map move_of (range_with_len 0 25) ≡ inner_rings
unfolding move_of
inner_moves = refl

-- ring 3 begins at code 25
three_to_the_right : code_of (pos 3) (pos 0) ≡ 27
unfolding code_of
three_to_the_right = refl

third_ring_begins :
    map move_of (25 ∷ 26 ∷ 27 ∷ []) ≡ (pos 3, neg 2) ∷ (pos 3, neg 1) ∷ (pos 3, pos 0) ∷ []
unfolding move_of
third_ring_begins = refl

-- a ring ends at its lower right corner, ring 40 one before the square of 81
lower_right_corner : code_of (pos 40) (neg 40) ≡ 6560
unfolding code_of
lower_right_corner = refl

last_of_ring_40 : move_of 6560 ≡ (pos 40, neg 40)
unfolding move_of
last_of_ring_40 = refl

-- The laws of the spiral: each movement has one code and each code one movement, and both have one ring.
-- They hold of every movement and every code, however large.
use Rattle.std.proofs.Common.{◌≡◌, ℕ, ◌+◌, ◌*◌, ◌<◌, ◌≤◌, ℤ, pos, ◌↔◌, refl, sym, ap, ◌∙◌, subst}
use Rattle.spiral_code.specs.Spiral.{ring_of, square, code_of, ring_of_code, move_of}
use Rattle.spiral_code.proofs.RingLemmas.{ring_of-move_at}
use Rattle.spiral_code.proofs.CodeRingLemmas.{ring_of_code-zero, ring_of_code-le}
use Rattle.spiral_code.proofs.RingPlaceLemmas.{code_of-move_at, ring_of_code-code_at, move_of-code_at, by_move, by_code}

-- code 0 is the zero movement
pub code_of-zero : code_of (pos 0) (pos 0) ≡ 0
unfolding code_of
code_of-zero = refl

pub move_of-zero : move_of 0 ≡ (pos 0, pos 0)
unfolding move_of
move_of-zero = refl

-- the movement of a movement's code is that movement
pub move_of-code_of : (dx dy : ℤ) → move_of (code_of dx dy) ≡ (dx, dy)
move_of-code_of = by_move (λ dx dy. move_of (code_of dx dy) ≡ (dx, dy))
    (ap move_of code_of-zero ∙ move_of-zero)
    (λ r side i within. ap move_of (code_of-move_at r side i within) ∙ move_of-code_at r side i within)

-- the code of a code's movement is that code
pub code_of-move_of : (code : ℕ) → code_of (move_of code).0 (move_of code).1 ≡ code
code_of-move_of = by_code (λ code. code_of (move_of code).0 (move_of code).1 ≡ code)
    (ap (λ m. code_of m.0 m.1) move_of-zero ∙ code_of-zero)
    (λ r side i within.
    ap (λ m. code_of m.0 m.1) (move_of-code_at r side i within) ∙ code_of-move_at r side i within)

-- the ring of a code's movement is that of the code
pub ring_of-move_of : (code : ℕ) → ring_of (move_of code).0 (move_of code).1 ≡ ring_of_code code
ring_of-move_of = by_code (λ code. ring_of (move_of code).0 (move_of code).1 ≡ ring_of_code code)
    (ap (λ m. ring_of m.0 m.1) move_of-zero ∙ sym ring_of_code-zero)
    (λ r side i within.
    ap (λ m. ring_of m.0 m.1) (move_of-code_at r side i within)
    ∙ ring_of-move_at r side i within
    ∙ sym (ring_of_code-code_at r side i within))

-- the ring of a movement's code is that of the movement
pub ring_of_code-code_of : (dx dy : ℤ) → ring_of_code (code_of dx dy) ≡ ring_of dx dy
ring_of_code-code_of dx dy =
    sym (ring_of-move_of (code_of dx dy)) ∙ ap (λ m. ring_of m.0 m.1) (move_of-code_of dx dy)

-- the movements up to ring r are those whose codes are below the square of 2r + 1
pub code_of-below : (dx dy : ℤ) (r : ℕ) → (code_of dx dy < square (2 * r + 1)) ↔ (ring_of dx dy ≤ r)
code_of-below dx dy r =
    subst (λ n. (code_of dx dy < square (2 * r + 1)) ↔ (n ≤ r)) (ring_of_code-code_of dx dy)
    (ring_of_code-le (code_of dx dy) r)

-- the codes below the square of 2r + 1 are those of the movements up to ring r
pub move_of-below : (code r : ℕ) → (code < square (2 * r + 1)) ↔ (ring_of (move_of code).0 (move_of code).1 ≤ r)
move_of-below code r =
    subst (λ n. (code < square (2 * r + 1)) ↔ (n ≤ r)) (sym (ring_of-move_of code)) (ring_of_code-le code r)

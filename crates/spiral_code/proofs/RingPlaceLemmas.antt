-- A place of the spiral, its movement and its code; and that each movement and each code but the first
-- has a place, so that a law need only be shown at places.
use Rattle.std.proofs.Common.{◌≡◌, ℕ, zero, suc, ◌+◌, ◌-◌, ◌*◌, ◌<◌, ℤ, pos, neg_ℤ, ◌+ℤ◌, ◌-ℤ◌, ◌<ℤ◌, ◌≤ℤ◌, unsigned_abs, get_or, sym, ap, ◌∙◌, subst, subst₂, ◌⊎◌, inl, inr, eq-zero-or-pos, ◌≤◌, arith}
use Rattle.std.specs.List.{position_or_len}
use Rattle.std.proofs.lemmas.Int.{ints, by_lt_z}
use Rattle.spiral_code.specs.declared.ring_place.Side.{Side}
use Rattle.spiral_code.specs.declared.ring_place.Side.TheVariants.{East, North, West, South}
use Rattle.spiral_code.specs.Spiral.{ring_of, move_at, ring_moves, first_code, is_move, code_of, ring_of_code, move_of}
use Rattle.spiral_code.proofs.RingLemmas.{place_in_ring, length-ring_moves, get_or-ring_moves, ring_of-move_at, place_in_ring-below, side_of_place, position-move_at}
use Rattle.spiral_code.proofs.CodeRingLemmas.{first_code-suc, ring_of_code-on, ring_round}

-- the code of place i of a side of ring r
abbrev pub code_at : ℕ → Side → ℕ → ℕ
code_at r side i = first_code r + place_in_ring r side i

-- the code of the movement at a place is that of the place
pub code_of-move_at : (r : ℕ) (side : Side) (i : ℕ) → i < 2 * r →
    code_of (move_at r side i).0 (move_at r side i).1 ≡ code_at r side i
unfolding code_of
code_of-move_at r side i on_side =
    let m = move_at r side i in
    let HasCode : ℕ → Type 0 =
    λ n. first_code n + position_or_len (is_move m.0 m.1) (ring_moves n) ≡ code_at r side i
    in
    let on_ring : HasCode r = ap (λ k. first_code r + k) (position-move_at r side i on_side) in
    subst HasCode (sym (ring_of-move_at r side i on_side)) on_ring

pub ring_of_code-code_at : (r : ℕ) (side : Side) (i : ℕ) → i < 2 * r → ring_of_code (code_at r side i) ≡ r
ring_of_code-code_at r side i on_side =
    let many = length-ring_moves r (omega arith) in
    let ends : code_at r side i < first_code (suc r) =
    omega (arith, first_code-suc r, place_in_ring-below r side i on_side)
    in
    ring_of_code-on (code_at r side i) r (omega arith) ends

-- the movement of the code of a place is that of the place
pub move_of-code_at : (r : ℕ) (side : Side) (i : ℕ) → i < 2 * r →
    move_of (code_at r side i) ≡ move_at r side i
unfolding move_of
move_of-code_at r side i on_side =
    let code = code_at r side i in
    let d : ℤ × ℤ = (pos 0, pos 0) in
    ap (λ n. get_or (ring_moves n) (code - first_code n) d) (ring_of_code-code_at r side i on_side)
    ∙ ap (λ k. get_or (ring_moves r) k d) (omega arith)
    ∙ get_or-ring_moves r side i d on_side

-- how far along a side of ring r the distance `along` is reached
steps_to : (r : ℕ) (along : ℤ) → neg_ℤ (pos r) <ℤ along → along ≤ℤ pos r →
    (i : ℕ) × (i < 2 * r) × (pos (1 + i) ≡ along +ℤ pos r)
steps_to r along low high = (unsigned_abs (along +ℤ pos r -ℤ pos 1), omega (arith, ints), omega (arith, ints))

cases_lt_z : (a b : ℤ) → (a <ℤ b) ⊎ (b ≤ℤ a)
cases_lt_z a b = by_lt_z a b inl inr

-- What holds of the zero movement and of the movement at each place holds of all.
module _ (P : ℤ → ℤ → Type 0) (still : P (pos 0) (pos 0))
    (at_places : (r : ℕ) (side : Side) (i : ℕ) → i < 2 * r → P (move_at r side i).0 (move_at r side i).1) where
  -- of a movement on a side, where `along` is its distance along the side
  on_side : (r : ℕ) (side : Side) (along dx dy : ℤ) → neg_ℤ (pos r) <ℤ along → along ≤ℤ pos r →
      ((i : ℕ) → pos (1 + i) ≡ along +ℤ pos r →
      ((move_at r side i).0 ≡ dx) × ((move_at r side i).1 ≡ dy)) →
      P dx dy
  on_side r side along dx dy low high lies =
      let i = steps_to r along low high in
      subst₂ P (lies i.0 i.2).0 (lies i.0 i.2).1 (at_places r side i.0 i.1)

  off_centre : (dx dy : ℤ) → 0 < ring_of dx dy → P dx dy
  off_centre dx dy moving =
      let r = ring_of dx dy in
      elim (cases_lt_z dx (pos r)) [
        | inl left ↦ elim (cases_lt_z dy (pos r)) [
          | inl low ↦ elim (cases_lt_z (neg_ℤ (pos r)) dx) [
            | inl right ↦ on_side r South dx dx dy right (omega (arith, ints)) (λ i at_i. omega (arith, ints))
            | inr leftmost ↦
                on_side r West (neg_ℤ dy) dx dy (omega (arith, ints)) (omega (arith, ints))
                (λ i at_i. omega (arith, ints))
          ]
          | inr top ↦
              on_side r North (neg_ℤ dx) dx dy (omega (arith, ints)) (omega (arith, ints))
              (λ i at_i. omega (arith, ints))
        ]
        | inr rightmost ↦ elim (cases_lt_z (neg_ℤ (pos r)) dy) [
          | inl high ↦ on_side r East dy dx dy high (omega (arith, ints)) (λ i at_i. omega (arith, ints))
          | inr bottom ↦
              on_side r South dx dx dy (omega (arith, ints)) (omega (arith, ints)) (λ i at_i. omega (arith, ints))
        ]
      ]

  pub by_move : (dx dy : ℤ) → P dx dy
  by_move dx dy = elim (eq-zero-or-pos (ring_of dx dy)) [
    | inl centre ↦ subst₂ P (omega (arith, ints)) (omega (arith, ints)) still
    | inr moving ↦ off_centre dx dy moving
  ]

-- What holds of code 0 and of the code of each place holds of all.
module _ (P : ℕ → Type 0) (first : P 0)
    (at_places : (r : ℕ) (side : Side) (i : ℕ) → i < 2 * r → P (code_at r side i)) where
  on_ring : (code r : ℕ) → first_code r ≤ code → code < first_code (suc r) → P code
  on_ring code zero low high = subst P (omega arith) first
  on_ring code (suc n) low high =
      let r = suc n in
      let many = length-ring_moves r (omega arith) in
      let on = side_of_place r (code - first_code r) (omega (arith, first_code-suc r)) in
      subst P {x = code_at r on.0 on.1} (omega (arith, on.3)) (at_places r on.0 on.1 on.2)

  pub by_code : (code : ℕ) → P code
  by_code code = let on = ring_round code in on_ring code on.0 on.1 on.2

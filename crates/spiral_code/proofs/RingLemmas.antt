-- The movements of one ring: each stands once in the ring's list, at the place that its side gives it.
use Rattle.std.proofs.Common.{◌≡◌, ℕ, zero, suc, ◌+◌, ◌-◌, ◌*◌, ◌<◌, ◌≤◌, ℤ, pos, Bool, true, false, List, ◌++◌, length, get_or, length-append, refl, sym, ap, ◌∙◌, inl, inr, arith}
use Rattle.std.specs.List.{position_or_len}
use Rattle.std.specs.Ordering.{int_eq}
use Rattle.std.proofs.lemmas.Bool.{cases_lt, cases_Bool, and_from, and_parts}
use Rattle.std.proofs.lemmas.Bool.Decides.{Decides-int_eq}
use Rattle.std.proofs.lemmas.Int.{ints}
use Rattle.std.proofs.lemmas.List.{get_or_append_left, get_or-append_right}
use Rattle.std.proofs.lemmas.List.FromFn.{length-map-range_with_len, get_or-map-range_with_len}
use Rattle.std.proofs.lemmas.List.Sums.{position_or_len_is}
use Rattle.spiral_code.specs.declared.ring_place.Side.{Side}
use Rattle.spiral_code.specs.declared.ring_place.Side.TheVariants.{East, North, West, South}
use Rattle.spiral_code.specs.Side.{sides_before}
use Rattle.spiral_code.specs.Spiral.{ring_of, move_at, side_moves, ring_moves, is_move}

-- where place i of a side stands among the places of its ring
abbrev pub place_in_ring : ℕ → Side → ℕ → ℕ
place_in_ring r side i = sides_before side * (2 * r) + i

-- ---- the lists

length-side_moves : (r : ℕ) (side : Side) → length (side_moves r side) ≡ 2 * r
unfolding side_moves
length-side_moves r side = length-map-range_with_len (move_at r side) 0 (2 * r)

get_or-side_moves : (r : ℕ) (side : Side) (i : ℕ) (d : ℤ × ℤ) → i < 2 * r →
    get_or (side_moves r side) i d ≡ move_at r side i
unfolding side_moves
get_or-side_moves r side i d on_side =
    get_or-map-range_with_len (move_at r side) 0 (2 * r) i i d on_side (omega arith)

-- a ring from 1 on has 8r movements
pub length-ring_moves : (r : ℕ) → 0 < r → length (ring_moves r) ≡ 8 * r
unfolding ring_moves
length-ring_moves zero outside = absurd (omega arith)
length-ring_moves (suc n) outside = simp (length-append, length-side_moves) (omega arith)

-- The four sides joined: item i of one of them, by its place j in all.
module _ (r : ℕ) where
  abbrev two : List (ℤ × ℤ)
  two = side_moves r East ++ side_moves r North

  abbrev three : List (ℤ × ℤ)
  three = two ++ side_moves r West

  length-two : length two ≡ 4 * r
  length-two = simp (length-append, length-side_moves) (omega arith)

  length-three : length three ≡ 6 * r
  length-three = simp (length-append, length-side_moves) (omega arith)

  get_or-sides : (side : Side) (i j : ℕ) (d : ℤ × ℤ) → i < 2 * r → j ≡ place_in_ring r side i →
      get_or (three ++ side_moves r South) j d ≡ get_or (side_moves r side) i d
  get_or-sides East i j d on_side at_place =
      get_or_append_left three (side_moves r South) d j (omega (arith, length-three))
      ∙ get_or_append_left two (side_moves r West) d j (omega (arith, length-two))
      ∙ get_or_append_left (side_moves r East) (side_moves r North) d j (omega (arith, length-side_moves r East))
      ∙ ap (λ k. get_or (side_moves r East) k d) (omega arith)
  get_or-sides North i j d on_side at_place =
      get_or_append_left three (side_moves r South) d j (omega (arith, length-three))
      ∙ get_or_append_left two (side_moves r West) d j (omega (arith, length-two))
      ∙ get_or-append_right (side_moves r East) _ (2 * r) j d (length-side_moves r East) (omega arith)
      ∙ ap (λ k. get_or (side_moves r North) k d) (omega arith)
  get_or-sides West i j d on_side at_place =
      get_or_append_left three (side_moves r South) d j (omega (arith, length-three))
      ∙ get_or-append_right two _ (4 * r) j d length-two (omega arith)
      ∙ ap (λ k. get_or (side_moves r West) k d) (omega arith)
  get_or-sides South i j d on_side at_place =
      get_or-append_right three _ (6 * r) j d length-three (omega arith)
      ∙ ap (λ k. get_or (side_moves r South) k d) (omega arith)

-- the list of a ring has at each place of a side the movement that lies there
pub get_or-ring_moves : (r : ℕ) (side : Side) (i : ℕ) (d : ℤ × ℤ) → i < 2 * r →
    get_or (ring_moves r) (place_in_ring r side i) d ≡ move_at r side i
unfolding ring_moves
get_or-ring_moves zero side i d on_side = absurd (omega arith)
get_or-ring_moves (suc n) side i d on_side =
    get_or-sides (suc n) side i (place_in_ring (suc n) side i) d on_side refl
    ∙ get_or-side_moves (suc n) side i d on_side

-- ---- places

-- a movement lies on the ring of its place
pub ring_of-move_at : (r : ℕ) (side : Side) (i : ℕ) → i < 2 * r →
    ring_of (move_at r side i).0 (move_at r side i).1 ≡ r
ring_of-move_at r East i on_side = omega (arith, ints)
ring_of-move_at r North i on_side = omega (arith, ints)
ring_of-move_at r West i on_side = omega (arith, ints)
ring_of-move_at r South i on_side = omega (arith, ints)

-- two places of a ring with one movement are one: no corner belongs to two sides
same_place : (r : ℕ) (s t : Side) (i j : ℕ) → i < 2 * r → j < 2 * r →
    (move_at r s i).0 ≡ (move_at r t j).0 → (move_at r s i).1 ≡ (move_at r t j).1 →
    place_in_ring r s i ≡ place_in_ring r t j
same_place r East East i j p q dx dy = omega (arith, ints)
same_place r East North i j p q dx dy = omega (arith, ints)
same_place r East West i j p q dx dy = omega (arith, ints)
same_place r East South i j p q dx dy = omega (arith, ints)
same_place r North East i j p q dx dy = omega (arith, ints)
same_place r North North i j p q dx dy = omega (arith, ints)
same_place r North West i j p q dx dy = omega (arith, ints)
same_place r North South i j p q dx dy = omega (arith, ints)
same_place r West East i j p q dx dy = omega (arith, ints)
same_place r West North i j p q dx dy = omega (arith, ints)
same_place r West West i j p q dx dy = omega (arith, ints)
same_place r West South i j p q dx dy = omega (arith, ints)
same_place r South East i j p q dx dy = omega (arith, ints)
same_place r South North i j p q dx dy = omega (arith, ints)
same_place r South West i j p q dx dy = omega (arith, ints)
same_place r South South i j p q dx dy = omega (arith, ints)

-- a side's places are among the 8r of its ring
pub place_in_ring-below : (r : ℕ) (side : Side) (i : ℕ) → i < 2 * r → place_in_ring r side i < 8 * r
place_in_ring-below r East i on_side = omega arith
place_in_ring-below r North i on_side = omega arith
place_in_ring-below r West i on_side = omega arith
place_in_ring-below r South i on_side = omega arith

-- each of the 8r places of a ring belongs to a side
pub side_of_place : (r k : ℕ) → k < 8 * r →
    (side : Side) × (i : ℕ) × (i < 2 * r) × (k ≡ place_in_ring r side i)
side_of_place r k within = elim (cases_lt k (2 * r)) [
  | inl on_east ↦ (East, k, on_east, omega arith)
  | inr after_east ↦ elim (cases_lt k (4 * r)) [
    | inl on_north ↦ (North, k - 2 * r, omega arith, omega arith)
    | inr after_north ↦ elim (cases_lt k (6 * r)) [
      | inl on_west ↦ (West, k - 4 * r, omega arith, omega arith)
      | inr after_west ↦ (South, k - 6 * r, omega arith, omega arith)
    ]
  ]
]

-- ---- a movement in the list of its ring

-- whether a movement is the one at a place
abbrev is_at : ℕ → Side → ℕ → ℤ × ℤ → Bool
is_at r side i = let m = move_at r side i in is_move m.0 m.1

is_move-self : (dx dy : ℤ) → is_move dx dy (dx, dy) ≡ true
is_move-self dx dy = and_from _ _ ((Decides-int_eq dx dx).1 refl) ((Decides-int_eq dy dy).1 refl)

-- a movement that passes the test for another is that one
is_move-true : (dx dy : ℤ) (m : ℤ × ℤ) → is_move dx dy m ≡ true → (m.0 ≡ dx) × (m.1 ≡ dy)
is_move-true dx dy m passes =
    let parts = and_parts (int_eq m.0 dx) (int_eq m.1 dy) passes in
    ((Decides-int_eq m.0 dx).0 parts.0, (Decides-int_eq m.1 dy).0 parts.1)

-- the movement of a place does not stand before it in the list
not_before : (r : ℕ) (side : Side) (i k : ℕ) (d : ℤ × ℤ) → i < 2 * r → k < place_in_ring r side i →
    is_at r side i (get_or (ring_moves r) k d) ≡ false
not_before r side i k d on_side before =
    let m = move_at r side i in
    let found = get_or (ring_moves r) k d in
    let at_k = side_of_place r k (omega (arith, place_in_ring-below r side i on_side)) in
    let found_is : found ≡ move_at r at_k.0 at_k.1 =
    ap (λ j. get_or (ring_moves r) j d) at_k.3 ∙ get_or-ring_moves r at_k.0 at_k.1 d at_k.2
    in
    elim (cases_Bool (is_at r side i found)) [
      | inl passes ↦
          let same = is_move-true m.0 m.1 found passes in
          let same_dx = sym (ap (λ x. x.0) found_is) ∙ same.0 in
          let same_dy = sym (ap (λ x. x.1) found_is) ∙ same.1 in
          absurd (omega (arith, at_k.3, same_place r at_k.0 side at_k.1 i at_k.2 on_side same_dx same_dy))
      | inr fails ↦ fails
    ]

-- the list of a ring has the movement of a place first at that place
pub position-move_at : (r : ℕ) (side : Side) (i : ℕ) → i < 2 * r →
    position_or_len (is_move (move_at r side i).0 (move_at r side i).1) (ring_moves r) ≡ place_in_ring r side i
position-move_at r side i on_side =
    let place = place_in_ring r side i in
    let m = move_at r side i in
    let d : ℤ × ℤ = (pos 0, pos 0) in
    let within : place ≤ length (ring_moves r) =
    omega (arith, place_in_ring-below r side i on_side, length-ring_moves r (omega arith))
    in
    position_or_len_is (is_at r side i) (ring_moves r) place d within
    (λ k before. not_before r side i k d on_side before)
    (λ _. ap (is_at r side i) (get_or-ring_moves r side i d on_side) ∙ is_move-self m.0 m.1)

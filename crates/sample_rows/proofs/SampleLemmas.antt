-- Laws of a sample's rows: how one instant follows another, object by object.
use Rattle.std.proofs.Common.{◌≡◌, ◌≢◌, ℕ, zero, suc, ◌+◌, ◌*◌, ◌<◌, ◌≤◌, List, [], ◌∷◌, ◌++◌, length, map, get_or, set}
use Rattle.std.proofs.Common.{if◌then◌else◌, refl, ap, sym, ◌∙◌, inl, inr, arith}
use Rattle.std.specs.List.{flat_map, range_with_len}
use Rattle.std.proofs.lemmas.Bool.{cases_Bool, cases_lt}
use Rattle.std.proofs.lemmas.List.{append-nil, append_assoc, get_or-set_same, get_or-set_other, length-set}
use Rattle.std.proofs.lemmas.List.FromFn.{get_or-map-range_with_len, length-map-range_with_len, length-range_with_len}
use Rattle.list_laws.proofs.LengthLemmas.{length-flat_map-within}
use Rattle.list_laws.proofs.RangeLemmas.{flat_map-range_next}
use Rattle.track_types.specs.declared.raw_row.RawRow.{RawRow}
use Rattle.sample_rows.specs.declared.spot.Spot.{Spot}
use Rattle.sample_rows.specs.Reached.{AreSpotsAt}
use Rattle.sample_rows.specs.Sample.{drawn, first_spot, is_absent, next_state, object_rows, raw_row_of, rows_at, sample_rows}
use Rattle.sample_rows.specs.Sample.{spot_after, spot_at, state_after, draw_value}

-- the row of an object at the first instant
abbrev pub first_row : ℕ → RawRow
first_row object = raw_row_of 0 object (first_spot object)

-- at the first instant each object has one row
pub rows-first : (objects seed : ℕ) (xs : List ℕ) → flat_map (object_rows objects seed 0) xs ≡ map first_row xs
unfolding object_rows
rows-first objects seed [] = refl
rows-first objects seed (object ∷ xs) = ap (λ rows. first_row object ∷ rows) (rows-first objects seed xs)

-- the objects are where they begin
pub AreSpotsAt-first : (objects seed : ℕ) → AreSpotsAt seed 0 (map first_spot (range_with_len 0 objects)) seed
unfolding spot_at state_after
AreSpotsAt-first objects seed = record {
  generator = let none : 0 * length (map first_spot (range_with_len 0 objects)) ≡ 0 = grind arith in
      sym (ap (state_after seed) none);
  each = λ object below.
      let many = length-map-range_with_len first_spot 0 objects in
      let same : 0 + object ≡ object = omega arith in
      get_or-map-range_with_len first_spot 0 objects object object (first_spot 0) (omega (arith, many, below)) same;
}

-- Of an instant's objects those before one were moved on, and their rows came after the earlier ones.
pub record IsUnderWay (seed before object : ℕ) (spots : List Spot) (state : ℕ) (earlier rows : List RawRow) :
    Type 0 where
  pub generator : state ≡ state_after seed (before * length spots + object)
  pub moved : (other : ℕ) → other < object →
      get_or spots other (first_spot 0) ≡ spot_at (length spots) seed (suc before) other
  pub still : (other : ℕ) → object ≤ other → other < length spots →
      get_or spots other (first_spot 0) ≡ spot_at (length spots) seed before other
  pub came : rows ≡ earlier ++ flat_map (object_rows (length spots) seed (suc before)) (range_with_len 0 object)

module _ (seed before : ℕ) (spots : List Spot) (state : ℕ) where
  -- no object was moved on yet
  pub IsUnderWay-begun : (rows : List RawRow) → AreSpotsAt seed before spots state →
      IsUnderWay seed before 0 spots state rows rows
  IsUnderWay-begun rows reached = record {
    generator = let same : before * length spots + 0 ≡ before * length spots = omega arith in
        reached.generator ∙ ap (state_after seed) (sym same);
    moved = λ other below. absurd (omega arith);
    still = λ other least below. reached.each other below;
    came = sym (append-nil rows);
  }

  -- all objects were moved on
  pub IsUnderWay-done : (earlier rows : List RawRow) →
      IsUnderWay seed before (length spots) spots state earlier rows → AreSpotsAt seed (suc before) spots state
  IsUnderWay-done earlier rows way = record {
    generator = let same : before * length spots + length spots ≡ suc before * length spots = grind arith in
        way.generator ∙ ap (state_after seed) same;
    each = way.moved;
  }

  -- the rows that an object has by what was drawn for it
  pub object_rows-drawn : (object value : ℕ) (spot : Spot) → value ≡ drawn (length spots) seed before object →
      spot ≡ spot_at (length spots) seed (suc before) object →
      object_rows (length spots) seed (suc before) object
      ≡ (if is_absent value then [] else raw_row_of (suc before) object spot ∷ [])
  unfolding object_rows
  object_rows-drawn object value spot is at = rw (is, at) refl

  -- one draw more, and one instant more
  state_after-next : (draws : ℕ) → state_after seed (draws + 1) ≡ next_state (state_after seed draws)
  unfolding state_after
  state_after-next draws = let one : draws + 1 ≡ suc draws = omega arith in rw one refl

  spot_at-next : (object : ℕ) → spot_at (length spots) seed (suc before) object
      ≡ spot_after (drawn (length spots) seed before object) (spot_at (length spots) seed before object)
  unfolding spot_at
  spot_at-next object = refl

  -- one object more was moved on
  pub IsUnderWay-next : (object : ℕ) (earlier rows more : List RawRow) (after : ℕ) (spot : Spot) →
      IsUnderWay seed before object spots state earlier rows → object < length spots → after ≡ next_state state →
      spot ≡ spot_after (draw_value after) (get_or spots object (first_spot 0)) →
      more ≡ (if is_absent (draw_value after) then [] else raw_row_of (suc before) object spot ∷ []) →
      IsUnderWay seed before (object + 1) (set spots object spot) after earlier (rows ++ more)
  IsUnderWay-next object earlier rows more after spot way below next is came =
      let long = length-set spots object spot in
      let drawn_is : after ≡ state_after seed (before * length spots + object + 1) =
      next ∙ ap next_state way.generator ∙ sym (state_after-next (before * length spots + object)) in
      let at : spot ≡ spot_at (length spots) seed (suc before) object =
      is ∙ rw (drawn_is, way.still object (omega arith) below) (sym (spot_at-next object)) in
      let rows_are = object_rows-drawn object (draw_value after) spot (ap draw_value drawn_is) at in
      record {
        generator = let same : before * length spots + object + 1 ≡ before * length spots + (object + 1) = omega arith in
            rw long (drawn_is ∙ ap (state_after seed) same);
        moved = λ other less. elim (cases_lt other object) [
          | inl earlier_one ↦ rw long (get_or-set_other spots object other spot (first_spot 0) (λ e. omega arith)
              ∙ way.moved other earlier_one)
          | inr same_one ↦ let same : other ≡ object = omega arith in
              rw (long, same) (get_or-set_same spots object spot (first_spot 0) below ∙ at)
        ];
        still = λ other least less. rw long (get_or-set_other spots object other spot (first_spot 0) (λ e. omega arith)
            ∙ way.still other (omega arith) (omega (arith, long)));
        came = rw long (
            ap (λ ys. ys ++ more) way.came
            ∙ append_assoc earlier (flat_map (object_rows (length spots) seed (suc before)) (range_with_len 0 object)) more
            ∙ ap (λ ys. earlier ++ (flat_map (object_rows (length spots) seed (suc before)) (range_with_len 0 object) ++ ys))
            (came ∙ sym rows_are)
            ∙ ap (λ ys. earlier ++ ys) (sym (flat_map-range_next (object_rows (length spots) seed (suc before)) object))
            );
      }

-- one instant more
pub sample_rows-more : (objects instants seed : ℕ) →
    sample_rows objects (instants + 1) seed ≡ sample_rows objects instants seed ++ rows_at objects seed instants
unfolding sample_rows
sample_rows-more objects instants seed = flat_map-range_next (rows_at objects seed) instants

-- the first instant alone
pub sample_rows-one : (objects seed : ℕ) → sample_rows objects 1 seed ≡ rows_at objects seed 0
unfolding sample_rows
sample_rows-one objects seed = append-nil (rows_at objects seed 0)

-- there is a row, where there is an object and an instant
pub sample_rows-some : (objects instants seed : ℕ) → 0 < objects → 0 < instants → sample_rows objects instants seed ≢ []
unfolding sample_rows rows_at object_rows
sample_rows-some zero instants seed object instant none = omega arith
sample_rows-some (suc objects) zero seed object instant none = omega arith
sample_rows-some (suc objects) (suc instants) seed object instant none = cc

-- an object has at most one row at an instant
object_rows-few : (objects seed instant object : ℕ) → length (object_rows objects seed instant object) ≤ 1
unfolding object_rows
object_rows-few objects seed zero object = omega arith
object_rows-few objects seed (suc before) object = elim (cases_Bool (is_absent (drawn objects seed before object))) [
  | inl absent ↦ rw absent (omega arith)
  | inr present ↦ rw present (omega arith)
]

rows_at-few : (objects seed instant : ℕ) → length (rows_at objects seed instant) ≤ objects
unfolding rows_at
rows_at-few objects seed instant =
    let few = length-flat_map-within (object_rows objects seed instant) 1 (range_with_len 0 objects)
    (λ k d below. object_rows-few objects seed instant (get_or (range_with_len 0 objects) k d)) in
    omega (arith, few, length-range_with_len 0 objects)

-- there are at most as many rows as objects times instants
pub sample_rows-few : (objects instants seed : ℕ) → length (sample_rows objects instants seed) ≤ objects * instants
unfolding sample_rows
sample_rows-few objects instants seed =
    let few = length-flat_map-within (rows_at objects seed) objects (range_with_len 0 instants)
    (λ k d below. rows_at-few objects seed (get_or (range_with_len 0 instants) k d)) in
    rw (length-range_with_len 0 instants) at few

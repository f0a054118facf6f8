-- The place of a row's object among all objects: the rows of each object stand together.
use Rattle.std.proofs.Common.{◌≡◌, ◌≢◌, ℕ, zero, suc, ◌+◌, ◌-◌, ◌<◌, ◌≤◌, false, List, [], ◌∷◌, length, map, arith, refl, sym, ◌∙◌, ap, inl, inr, eq-eqb, ne_eqb}
use Rattle.std.specs.Prelude.{◌==◌}
use Rattle.std.specs.List.{list_any, position_or_len}
use Rattle.std.proofs.lemmas.Bool.{cases_lt}
use Rattle.std.proofs.lemmas.List.Sums.{prefix_len-le-length}
use Rattle.std.proofs.lemmas.Map.Keys.{sorted_tail}
use Rattle.track_types.specs.Quantities.{distinct, object_count, objects_of}
use Rattle.track_types.specs.Row.{IsAscending, row_order}
use Rattle.track_types.specs.declared.row.Row.{Row}
use Rattle.movement_log.specs.Blocks.{object_place, row_at}
use Rattle.movement_log.proofs.RowLemmas.{object_rises}

-- no object of rows is one that is below them all
none_below : (object : ℕ) (rows : List Row) → ((k : ℕ) → k < length rows → object < (row_at rows k).object) →
    list_any (λ y. object == y) (map (λ row. row.object) rows) ≡ false
none_below object [] above = refl
none_below object (row ∷ rest) above =
    let differs : (object == row.object) ≡ false =
    ne_eqb object row.object (λ e. let more = above 0 (omega arith) in omega arith) in
    rw (differs, none_below object rest (λ k below. above (suc k) (omega arith))) refl

-- a row of a new object, before the others
new_object : (row : Row) (rest : List Row) → ((k : ℕ) → k < length rest → row.object < (row_at rest k).object) →
    objects_of (row ∷ rest) ≡ row.object ∷ objects_of rest
unfolding distinct
new_object row rest above = rw (none_below row.object rest above) refl

-- a row of the next row's object
same_object : (row next : Row) (rest : List Row) → row.object ≡ next.object →
    objects_of (row ∷ next ∷ rest) ≡ objects_of (next ∷ rest)
unfolding distinct
same_object row next rest same = rw (eq-eqb row.object next.object same) refl

module _ (row next : Row) (rest : List Row) (up : IsAscending (row ∷ next ∷ rest)) where
  later_objects : row.object < next.object → (k : ℕ) → k < length (next ∷ rest) → row.object < (row_at (next ∷ rest) k).object
  later_objects new k below =
      let more = object_rises (row ∷ next ∷ rest) up 1 (suc k) (omega arith) (omega arith) in omega arith

  next_object : row.object ≤ next.object
  next_object = object_rises (row ∷ next ∷ rest) up 0 1 (omega arith) (omega arith)

-- the place of an object in a list that begins with it, or with another
first_is : (object : ℕ) (objects : List ℕ) → position_or_len (λ o. o == object) (object ∷ objects) ≡ 0
first_is object objects = rw (eq-eqb object object refl) refl

first_is_not : (other object : ℕ) (objects : List ℕ) → other < object →
    position_or_len (λ o. o == object) (other ∷ objects) ≡ suc (position_or_len (λ o. o == object) objects)
first_is_not other object objects below = rw (ne_eqb other object (λ e. omega arith)) (omega arith)

-- the first row's object is the first
first_place : (row : Row) (rest : List Row) → IsAscending (row ∷ rest) → object_place (row ∷ rest) 0 ≡ 0
first_place row [] up =
    ap (position_or_len (λ o. o == row.object)) (new_object row [] (λ k below. absurd (omega arith))) ∙ first_is row.object (objects_of [])
first_place row (next ∷ rest) up = elim (cases_lt row.object next.object) [
  | inl new ↦
      ap (position_or_len (λ o. o == row.object)) (new_object row (next ∷ rest) (later_objects row next rest up new))
      ∙ first_is row.object (objects_of (next ∷ rest))
  | inr not ↦
      let same : row.object ≡ next.object = omega (arith, next_object row next rest up) in
      ap (position_or_len (λ o. o == row.object)) (same_object row next rest same)
      ∙ ap (λ object. position_or_len (λ o. o == object) (objects_of (next ∷ rest))) same
      ∙ first_place next rest (sorted_tail row_order row (next ∷ rest) up)
]

pub object_place-first : (rows : List Row) → IsAscending rows → object_place rows 0 ≡ 0
unfolding distinct
object_place-first [] up = refl
object_place-first (row ∷ rest) up = first_place row rest up

-- a row of another object than the row before has the next place
pub object_place-new : (rows : List Row) → IsAscending rows → (i : ℕ) → suc i < length rows →
    (row_at rows i).object < (row_at rows (suc i)).object → object_place rows (suc i) ≡ suc (object_place rows i)
object_place-new [] up i below new = absurd (omega arith)
object_place-new (row ∷ []) up i below new = absurd (omega arith)
object_place-new (row ∷ next ∷ rest) up zero below new =
    let objects = new_object row (next ∷ rest) (later_objects row next rest up new) in
    ap (position_or_len (λ o. o == next.object)) objects
    ∙ first_is_not row.object next.object (objects_of (next ∷ rest)) new
    ∙ ap suc (first_place next rest (sorted_tail row_order row (next ∷ rest) up)
    ∙ sym (ap (position_or_len (λ o. o == row.object)) objects ∙ first_is row.object (objects_of (next ∷ rest))))
object_place-new (row ∷ next ∷ rest) up (suc i) below new =
    let tail = object_place-new (next ∷ rest) (sorted_tail row_order row (next ∷ rest) up) i (omega arith) new in
    let one : ℕ = (row_at (next ∷ rest) i).object in
    let two : ℕ = (row_at (next ∷ rest) (suc i)).object in
    elim (cases_lt row.object next.object) [
      | inl first ↦
          let objects = new_object row (next ∷ rest) (later_objects row next rest up first) in
          let above = later_objects row next rest up first i (omega arith) in
          ap (position_or_len (λ o. o == two)) objects
          ∙ first_is_not row.object two (objects_of (next ∷ rest)) (omega arith)
          ∙ ap suc (tail ∙ sym (ap (position_or_len (λ o. o == one)) objects
          ∙ first_is_not row.object one (objects_of (next ∷ rest)) above))
      | inr not ↦
          let same : row.object ≡ next.object = omega (arith, next_object row next rest up) in
          let objects = same_object row next rest same in
          ap (position_or_len (λ o. o == two)) objects ∙ tail
          ∙ ap suc (sym (ap (position_or_len (λ o. o == one)) objects))
    ]

pub object_place-next : (rows : List Row) → IsAscending rows → (at : ℕ) → at < length rows → 0 < at →
    (row_at rows (at - 1)).object ≢ (row_at rows at).object → object_place rows at ≡ object_place rows (at - 1) + 1
object_place-next rows up zero within some differ = absurd (omega arith)
object_place-next rows up (suc i) within some differ =
    let back : suc i - 1 ≡ i = omega arith in
    let apart : (row_at rows i).object ≢ (row_at rows (suc i)).object = rw back at differ in
    let up_to = object_rises rows up i (suc i) (omega arith) within in
    rw back (object_place-new rows up i within (omega arith) ∙ omega arith)

pub object_place-le : (rows : List Row) (i : ℕ) → object_place rows i ≤ object_count rows
object_place-le rows i = prefix_len-le-length _ (objects_of rows)

-- Rows in order, by their places: what an object's cell and value are at an instant near one of its rows.
use Rattle.std.proofs.Common.{◌≡◌, ◌≢◌, ℕ, ◌+◌, ◌<◌, ◌≤◌, true, false, List, length, Some, None, arith, refl, sym, ap, inl, inr}
use Rattle.std.specs.Prelude.{ℤ, ◌<ℤ◌, ◌≤ℤ◌, find}
use Rattle.std.specs.declared.cmp.Ordering.TheVariants.{Less}
use Rattle.std.proofs.lemmas.Bool.{cases_lt}
use Rattle.std.proofs.lemmas.Bool.Decides.{nat_tests}
use Rattle.std.proofs.lemmas.Int.{ints}
use Rattle.std.proofs.lemmas.Map.Keys.{Less-from_sorted}
use Rattle.list_laws.proofs.PlaceLemmas.{find_first_at, find_last_at, find_none_at}
use Rattle.track_types.specs.Row.{IsAscending, is_row_of, row_order}
use Rattle.track_types.specs.declared.row.Row.{Row}
use Rattle.track_types.proofs.RowLemmas.{object_le}
use Rattle.movement_log.specs.Blocks.{no_row, row_at}
use Rattle.movement_log.specs.Values.{is_before, last_before, move_value, value_at}

-- the order of two rows, as an order of their objects and instants
pub instant_lt : (a b : Row) → row_order a b ≡ Less → a.object ≡ b.object → a.instant <ℤ b.instant
instant_lt a b below same = grind (arith, nat_tests, ints)

-- a row of another object or instant is not the one that is sought
pub not_row_of : (object : ℕ) (instant : ℤ) (row : Row) → (row.object ≡ object → row.instant ≢ instant) →
    is_row_of object instant row ≡ false
not_row_of object instant row apart = grind (arith, nat_tests, ints)

pub not_earlier : (object : ℕ) (instant : ℤ) (row : Row) → (row.object ≡ object → instant ≤ℤ row.instant) →
    is_before object instant row ≡ false
not_earlier object instant row late = grind (arith, nat_tests, ints)

pub earlier : (object : ℕ) (instant : ℤ) (row : Row) → row.object ≡ object → row.instant <ℤ instant →
    is_before object instant row ≡ true
earlier object instant row same before = grind (arith, nat_tests, ints)

pub row_of : (object : ℕ) (instant : ℤ) (row : Row) → row.object ≡ object → row.instant ≡ instant →
    is_row_of object instant row ≡ true
row_of object instant row same at = grind (arith, nat_tests, ints)

module _ (rows : List Row) (up : IsAscending rows) where
  pub object_rises : (j k : ℕ) → j ≤ k → k < length rows → (row_at rows j).object ≤ (row_at rows k).object
  object_rises j k below within = elim (cases_lt j k) [
    | inl less ↦ object_le (row_at rows j) (row_at rows k) (Less-from_sorted row_order rows j k no_row up less within)
    | inr not ↦ let is : j ≡ k = omega arith in let same = ap (λ i. (row_at rows i).object) is in omega arith
  ]

  pub instant_rises : (j k : ℕ) → j < k → k < length rows → (row_at rows j).object ≡ (row_at rows k).object →
      (row_at rows j).instant <ℤ (row_at rows k).instant
  instant_rises j k less within same =
      instant_lt (row_at rows j) (row_at rows k) (Less-from_sorted row_order rows j k no_row up less within) same

  -- between a row of an object and the next row the object is absent
  apart_at : (object : ℕ) (instant : ℤ) (i : ℕ) → i < length rows → (row_at rows i).object ≡ object →
      (row_at rows i).instant <ℤ instant →
      (i + 1 < length rows → (row_at rows (i + 1)).object ≡ object → instant <ℤ (row_at rows (i + 1)).instant) →
      (k : ℕ) → k < length rows → (row_at rows k).object ≡ object → (row_at rows k).instant ≢ instant
  apart_at object instant i below same before after k within is at = elim (cases_lt i k) [
    | inl later ↦
        let next = object_rises i (i + 1) (omega arith) (omega arith) in
        let last = object_rises (i + 1) k (omega arith) within in
        let alike : (row_at rows (i + 1)).object ≡ object = omega arith in
        let past = after (omega arith) alike in
        elim (cases_lt (i + 1) k) [
          | inl less ↦ let more = instant_rises (i + 1) k less within (omega arith) in omega (arith, ints)
          | inr not ↦ let this : i + 1 ≡ k = omega arith in let there = ap (λ j. (row_at rows j).instant) this in omega (arith, ints)
        ]
    | inr not ↦ elim (cases_lt k i) [
      | inl less ↦ let more = instant_rises k i less below (omega arith) in omega (arith, ints)
      | inr least ↦ let this : i ≡ k = omega arith in let there = ap (λ j. (row_at rows j).instant) this in omega (arith, ints)
    ]
  ]

  pub value_at-absent : (object : ℕ) (instant : ℤ) (i : ℕ) → i < length rows → (row_at rows i).object ≡ object →
      (row_at rows i).instant <ℤ instant →
      (i + 1 < length rows → (row_at rows (i + 1)).object ≡ object → instant <ℤ (row_at rows (i + 1)).instant) →
      value_at rows object instant ≡ 0
  unfolding value_at
  value_at-absent object instant i below same before after =
      let none : find (is_row_of object instant) rows ≡ None =
      find_none_at (is_row_of object instant) no_row rows
      (λ k within. not_row_of object instant (row_at rows k) (apart_at object instant i below same before after k within)) in
      rw none refl

  -- a row's value is the movement from the row before, where that is of the same object
  pub value_at-present : (i : ℕ) → i + 1 < length rows → (row_at rows i).object ≡ (row_at rows (i + 1)).object →
      value_at rows (row_at rows (i + 1)).object (row_at rows (i + 1)).instant
      ≡ move_value (row_at rows i).cell (row_at rows (i + 1)).cell
  unfolding value_at
  value_at-present i below same =
      let row : Row = row_at rows (i + 1) in
      let less = instant_rises i (i + 1) (omega arith) below same in
      let found : find (is_row_of row.object row.instant) rows ≡ Some row =
      find_first_at (is_row_of row.object row.instant) no_row rows (i + 1) below (row_of row.object row.instant row refl refl)
      (λ k before. not_row_of row.object row.instant (row_at rows k)
      (λ alike at. let more = instant_rises k (i + 1) before below alike in omega (arith, ints))) in
      let last : last_before rows row.object row.instant ≡ Some (row_at rows i) =
      find_last_at (is_before row.object row.instant) no_row rows i (omega arith)
      (earlier row.object row.instant (row_at rows i) same less)
      (λ k later within. not_earlier row.object row.instant (row_at rows k)
      (λ alike. elim (cases_lt (i + 1) k) [
        | inl further ↦ let more = instant_rises (i + 1) k further within (sym alike) in omega (arith, ints)
        | inr not ↦ let this : i + 1 ≡ k = omega arith in let there = ap (λ j. (row_at rows j).instant) this in omega (arith, ints)
      ])) in
      rw (found, last) refl

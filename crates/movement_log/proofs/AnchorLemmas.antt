-- Anchors of rows in order: a row is its block's anchor where the row before it is of another block.
use Rattle.std.proofs.Common.{◌≡◌, ℕ, ℤ, ◌+◌, ◌-◌, ◌*◌, ◌/◌, ◌≤◌, ◌<◌, Bool, true, false, List, eq-eqb, length, refl, sym, ap, arith, inl, inr}
use Rattle.std.specs.Prelude.{◌==◌, ◌&&◌, not, ◌<ℤ◌, ◌≤ℤ◌, nat_lt}
use Rattle.std.specs.Int.Signed.{lt_z}
use Rattle.std.specs.List.{list_any}
use Rattle.std.proofs.lemmas.Bool.Decides.{nat_tests}
use Rattle.std.proofs.lemmas.Bool.{and_parts, cases_Bool, cases_lt}
use Rattle.std.proofs.lemmas.Int.{ints}
use Rattle.std.proofs.lemmas.List.Folds.{list_any_at}
use Rattle.std.proofs.Math.Nat.{div-lt_iff_lt-mul}
use Rattle.list_laws.proofs.NumberLemmas.{div-le}
use Rattle.list_laws.proofs.PlaceLemmas.{list_any-none_at}
use Rattle.track_types.specs.Quantities.{elapsed, is_anchor, is_same_block, period_of}
use Rattle.track_types.specs.Row.{IsAscending}
use Rattle.track_types.specs.declared.row.Row.{Row}
use Rattle.movement_log.specs.Blocks.{no_row, row_at}
use Rattle.movement_log.proofs.RowLemmas.{instant_rises, object_rises}

-- a number that is no smaller has the same quotient if and only if it is below the next multiple
pub same_quotient : (k a b : ℕ) → 0 < k → a ≤ b → b < (a / k + 1) * k → a / k ≡ b / k
same_quotient k a b some le below =
    let up = div-le k a b some le in
    let low : b / k < a / k + 1 = (div-lt_iff_lt-mul some).1 below in
    omega arith

pub below_next : (k a b : ℕ) → 0 < k → a / k ≡ b / k → b < (a / k + 1) * k
below_next k a b some same = let low : b / k < a / k + 1 = omega arith in (div-lt_iff_lt-mul some).0 low

module _ (first : ℤ) (period : ℕ) where
  pub same_parts : (a b : Row) → is_same_block first period a b ≡ true →
      (a.object ≡ b.object) × (period_of first period a ≡ period_of first period b)
  same_parts a b same =
      let parts = and_parts (a.object == b.object) (period_of first period a == period_of first period b) same in
      (grind (arith, nat_tests, parts.0), grind (arith, nat_tests, parts.1))

  pub same_from_parts : (a b : Row) → a.object ≡ b.object → period_of first period a ≡ period_of first period b →
      is_same_block first period a b ≡ true
  same_from_parts a b objects periods =
      rw (eq-eqb a.object b.object objects, eq-eqb (period_of first period a) (period_of first period b) periods) refl

  -- a row no earlier than another of its object is of that one's block if and only if it comes before its period's end
  pub same_until : (a b : Row) (end : ℕ) → 0 < period → a.object ≡ b.object → elapsed first a ≤ elapsed first b →
      end ≡ (period_of first period a + 1) * period → nat_lt (elapsed first b) end ≡ is_same_block first period a b
  same_until a b end some objects later is = elim (cases_lt (elapsed first b) end) [
    | inl below ↦
        let same = same_from_parts a b objects (same_quotient period (elapsed first a) (elapsed first b) some later (rw is at below)) in
        let test : nat_lt (elapsed first b) end ≡ true = grind (arith, nat_tests) in rw same test
    | inr past ↦
        let test : nat_lt (elapsed first b) end ≡ false = grind (arith, nat_tests) in
        let other : is_same_block first period a b ≡ false = elim (cases_Bool (is_same_block first period a b)) [
          | inl same ↦
              let next = below_next period (elapsed first a) (elapsed first b) some (same_parts a b same).1 in
              absurd (omega (arith, past, next, is))
          | inr differ ↦ differ
        ] in
        rw other test
  ]

  -- later instants have no smaller periods
  pub period_mono : (a b : Row) → 0 < period → first ≤ℤ a.instant → a.instant ≤ℤ b.instant →
      period_of first period a ≤ period_of first period b
  period_mono a b some begins later =
      div-le period (elapsed first a) (elapsed first b) some (grind (arith, ints))

  -- whether another row of a row's block is earlier
  abbrev pub is_before : Row → Row → Bool
  is_before row other = is_same_block first period other row && lt_z other.instant row.instant

  pub before_from : (row other : Row) → is_same_block first period other row ≡ true → other.instant <ℤ row.instant →
      is_before row other ≡ true
  before_from row other same less = let test : lt_z other.instant row.instant ≡ true = grind (arith, ints) in rw (same, test) refl

  pub not_before : (row other : Row) → (is_same_block first period other row ≡ true → row.instant ≤ℤ other.instant) →
      is_before row other ≡ false
  not_before row other late = elim (cases_Bool (is_same_block first period other row)) [
    | inl same ↦
        let after : row.instant ≤ℤ other.instant = late same in
        let test : lt_z other.instant row.instant ≡ false = grind (arith, ints) in rw (same, test) refl
    | inr differ ↦ rw differ refl
  ]

  module _ (rows : List Row) (up : IsAscending rows) where
    pub is_anchor-first : 0 < length rows → is_anchor first period rows (row_at rows 0) ≡ true
    is_anchor-first some =
        let row = row_at rows 0 in
        let none : list_any (is_before row) rows ≡ false =
        list_any-none_at (is_before row) no_row rows
        (λ k within. not_before row (row_at rows k) (λ same. elim (cases_lt 0 k) [
          | inl later ↦
              let objects = (same_parts (row_at rows k) row same).0 in
              let more = instant_rises rows up 0 k later within (sym objects) in omega (arith, ints)
          | inr not ↦ let is : 0 ≡ k = omega arith in let at = ap (λ i. (row_at rows i).instant) is in omega (arith, ints)
        ])) in
        ap not none

    pub is_anchor-next : (i : ℕ) → i + 1 < length rows → 0 < period →
        ((k : ℕ) → k < length rows → first ≤ℤ (row_at rows k).instant) →
        is_anchor first period rows (row_at rows (i + 1))
        ≡ not (is_same_block first period (row_at rows i) (row_at rows (i + 1)))
    is_anchor-next i below some begins =
        let before = row_at rows i in
        let row = row_at rows (i + 1) in
        elim (cases_Bool (is_same_block first period before row)) [
          | inl same ↦
              let objects = (same_parts before row same).0 in
              let less = instant_rises rows up i (i + 1) (omega arith) below objects in
              let any : list_any (is_before row) rows ≡ true =
              list_any_at (is_before row) rows i no_row (omega arith) (before_from row before same less) in
              rw same (ap not any)
          | inr differ ↦
              let none : list_any (is_before row) rows ≡ false =
              list_any-none_at (is_before row) no_row rows
              (λ k within. not_before row (row_at rows k) (λ same. late i below some begins differ k within same)) in
              rw differ (ap not none)
        ]
      where
        -- where the row before is of another block, no row of the block is earlier
        late : (i : ℕ) → i + 1 < length rows → 0 < period →
            ((k : ℕ) → k < length rows → first ≤ℤ (row_at rows k).instant) →
            is_same_block first period (row_at rows i) (row_at rows (i + 1)) ≡ false → (k : ℕ) → k < length rows →
            is_same_block first period (row_at rows k) (row_at rows (i + 1)) ≡ true →
            (row_at rows (i + 1)).instant ≤ℤ (row_at rows k).instant
        late i below some begins differ k within same =
            let parts = same_parts (row_at rows k) (row_at rows (i + 1)) same in
            let objects : (row_at rows k).object ≡ (row_at rows (i + 1)).object = parts.0 in
            let periods : period_of first period (row_at rows k) ≡ period_of first period (row_at rows (i + 1)) = parts.1 in
            elim (cases_lt (i + 1) k) [
              | inl later ↦ let more = instant_rises rows up (i + 1) k later within (sym objects) in omega (arith, ints)
              | inr not ↦ elim (cases_lt k (i + 1)) [
                | inr least ↦ let is : k ≡ i + 1 = omega arith in let at = ap (λ j. (row_at rows j).instant) is in omega (arith, ints)
                | inl less ↦
                    let low = object_rises rows up k i (omega arith) (omega arith) in
                    let high = object_rises rows up i (i + 1) (omega arith) below in
                    let alike : (row_at rows i).object ≡ (row_at rows (i + 1)).object = omega arith in
                    let above : (row_at rows i).instant <ℤ (row_at rows (i + 1)).instant = instant_rises rows up i (i + 1) (omega arith) below alike in
                    let from : (row_at rows k).instant ≤ℤ (row_at rows i).instant = elim (cases_lt k i) [
                      | inl before ↦ let more = instant_rises rows up k i before (omega arith) (omega arith) in omega (arith, ints)
                      | inr same_place ↦ let is : k ≡ i = omega arith in let at = ap (λ j. (row_at rows j).instant) is in omega (arith, ints)
                    ] in
                    let up_to = period_mono (row_at rows k) (row_at rows i) some (begins k within) from in
                    let on = period_mono (row_at rows i) (row_at rows (i + 1)) some (begins i (omega arith)) (omega (arith, ints)) in
                    let met = same_from_parts (row_at rows i) (row_at rows (i + 1)) alike (omega arith) in
                    absurd (cc)
              ]
            ]

    -- a row that is no anchor is in the period of the row before it
    pub period_kept : 0 < period → ((k : ℕ) → k < length rows → first ≤ℤ (row_at rows k).instant) → (at : ℕ) → 0 < at →
        at < length rows → is_anchor first period rows (row_at rows at) ≡ false →
        period_of first period (row_at rows (at - 1)) ≡ period_of first period (row_at rows at)
    period_kept some begins at later within is =
        let back : at - 1 + 1 ≡ at = omega arith in
        let next = rw back at (is_anchor-next (at - 1) (omega arith) some begins) in
        elim (cases_Bool (is_same_block first period (row_at rows (at - 1)) (row_at rows at))) [
          | inl same ↦ (same_parts (row_at rows (at - 1)) (row_at rows at) same).1
          | inr differ ↦ let anchor = rw differ at next in absurd (cc)
        ]

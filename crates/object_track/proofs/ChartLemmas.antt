-- What a look at all rows of an index's chart finds: it is in the blocks of the one object, and in those periods alone
-- that have the instants.
use Rattle.std.proofs.Common.{◌≡◌, ℕ, ◌<◌, ℤ, ◌≤ℤ◌, List, [], ◌∷◌, length, get_or, None, Some, Bool}
use Rattle.std.proofs.Common.{map, filter, eqb, true, false, inl, inr, refl, ap, subst, sym, ◌∙◌, arith}
use Rattle.std.specs.Prelude.{slice_get, slice_index}
use Rattle.std.specs.List.{flat_map, range_with_len}
use Rattle.std.specs.Option.{option_map}
use Rattle.std.proofs.lemmas.Bool.{cases_order, eq-eqb, eqb-true, ne_eqb}
use Rattle.std.proofs.lemmas.Int.{ints}
use Rattle.std.proofs.lemmas.List.{map-id}
use Rattle.std.proofs.lemmas.List.Elements.{All-contains, filter_agree}
use Rattle.std.proofs.lemmas.Simd.{map-map}
use Rattle.list_laws.proofs.MemberLemmas.{filter-none, member_of_map}
use Rattle.list_laws.proofs.FlatLemmas.{filter-flat_map, flat_map_agree}
use Rattle.list_laws.proofs.MapLemmas.{filter-map}
use Rattle.list_laws.proofs.OrderedLemmas.{find-filter}
use Rattle.list_laws.proofs.RangeLemmas.{find_in_range-some, flat_map-range_none, flat_map-range_one}
use Rattle.list_laws.proofs.FindLemmas.{find_in_range-all}
use Rattle.track_types.specs.ByFilter.{cell_at, is_row_between, path_of, stop_of}
use Rattle.track_types.specs.Frame.{periods_of}
use Rattle.track_types.specs.Region.{is_between}
use Rattle.track_types.specs.Row.{is_row_of}
use Rattle.track_types.specs.declared.parts.Parts.{Parts}
use Rattle.track_types.specs.declared.row.Row.{Row}
use Rattle.track_types.specs.declared.stop.Stop.{Stop}
use Rattle.track_types.proofs.RegionLemmas.{is_between-from}
use Rattle.track_types.proofs.TimelineLemmas.{period-apart}
use Rattle.rule_store.specs.Log.{in_window}
use Rattle.log_cursor.specs.Seek.{cell_among, is_stop_at}
use Rattle.log_cursor.proofs.StopLemmas.{int_eq-apart}
use Rattle.snapshots.specs.Parts.{chart_in, end_in, first_in, index_in, last_in, numbers_in, period_in, row_of, rows_in, stops_in}
use Rattle.snapshots.specs.SoundParts.{IsValid}
use Rattle.list_laws.proofs.IncreasingLemmas.{increasing-below}
use Rattle.object_track.specs.Met.{IsMissed}
use Rattle.object_track.proofs.MetLemmas.{period-inside, period_in-none, period_in-some}
use Rattle.object_track.proofs.StopsLemmas.{All-stops_in, IsStopIn}

-- a test takes rows of one object alone
abbrev pub IsOf : ℕ → (Row → Bool) → Type 0
IsOf object test = (row : Row) → (row.object ≡ object → ⊥) → test row ≡ false

-- the object at a place
pub index_in-some : (objects : List ℕ) (object index : ℕ) → index_in objects object ≡ Some index
    → (index < length objects) × (slice_index objects index ≡ object)
index_in-some objects object index is =
    let found = find_in_range-some (λ i. eqb (slice_index objects i) object) 0 (length objects) index is in
    (omega (arith, found.0), eqb-true (slice_index objects index) object found.1)

-- the cell of the first of some stops, seen as a row
first-cell : (object : ℕ) (stops : List Stop)
    → option_map (λ (row : Row). row.cell) (slice_get (map (row_of object) stops) 0)
    ≡ option_map (λ (stop : Stop). stop.cell) (slice_get stops 0)
first-cell object [] = refl
first-cell object (stop ∷ stops) = refl

module _ (parts : Parts) (valid : IsValid parts) where
  -- the rows of an object are its own
  rows_in-none : (test : Row → Bool) (object index : ℕ) → (slice_index parts.objects index ≡ object → ⊥)
      → IsOf object test → filter test (rows_in parts index) ≡ []
  unfolding rows_in
  rows_in-none test object index other of =
      let stops : List Stop = flat_map (stops_in parts index) (numbers_in parts.frame) in
      filter-none test (map (row_of (slice_index parts.objects index)) stops) (λ row among.
      let from = member_of_map (row_of (slice_index parts.objects index)) stops row among in
      subst (λ r. test r ≡ false) from.2 (of (row_of (slice_index parts.objects index) from.0) other))

  -- objects at two places differ
  objects-apart : (i j : ℕ) → i < length parts.objects → j < length parts.objects → (i ≡ j → ⊥)
      → slice_index parts.objects i ≡ slice_index parts.objects j → ⊥
  objects-apart i j first second apart same = elim (cases_order i j) [
    | inl equal ↦ apart equal
    | inr differ ↦ elim differ [
      | inl less ↦
          let below = increasing-below parts.objects valid.shaped.objects i j less second in
          omega (arith, below, same)
      | inr more ↦
          let above = increasing-below parts.objects valid.shaped.objects j i more first in
          omega (arith, above, same)
    ]
  ]

  -- the rows of an unknown object
  pub rows-unknown : (test : Row → Bool) (object : ℕ) → index_in parts.objects object ≡ None → IsOf object test
      → filter test (chart_in parts).rows ≡ []
  unfolding chart_in
  rows-unknown test object none of =
      filter-flat_map test (rows_in parts) (range_with_len 0 (length parts.objects))
      ∙ flat_map-range_none (λ j. filter test (rows_in parts j)) 0 (length parts.objects)
      (λ j low high.
      let differs = find_in_range-all (λ i. eqb (slice_index parts.objects i) object) 0 (length parts.objects) none j
      low high in
      rows_in-none test object j
      (λ same. let equal = eq-eqb (slice_index parts.objects j) object same in absurd (cc)) of)

  -- those of a known one
  pub rows-known : (test : Row → Bool) (object index : ℕ) → index_in parts.objects object ≡ Some index
      → IsOf object test → filter test (chart_in parts).rows ≡ map (row_of object)
      (flat_map (λ number. filter (λ stop. test (row_of object stop)) (stops_in parts index number))
      (numbers_in parts.frame))
  unfolding chart_in rows_in
  rows-known test object index is of =
      let found = index_in-some parts.objects object index is in
      let stops : List Stop = flat_map (stops_in parts index) (numbers_in parts.frame) in
      filter-flat_map test (rows_in parts) (range_with_len 0 (length parts.objects))
      ∙ flat_map-range_one (λ j. filter test (rows_in parts j)) index (length parts.objects) found.0
      (λ j within other. rows_in-none test object j
      (λ same. objects-apart j index within found.0 other (same ∙ sym found.1)) of)
      ∙ filter-map test (row_of (slice_index parts.objects index)) stops
      ∙ ap (λ o. map (row_of o) (filter (λ stop. test (row_of o stop)) stops)) found.1
      ∙ ap (map (row_of object))
      (filter-flat_map (λ stop. test (row_of object stop)) (stops_in parts index) (numbers_in parts.frame))

  -- a test that is false at all instants of a period
  pub stops-missed : (index number : ℕ) (test : Stop → Bool) → number < periods_of parts.frame
      → ((stop : Stop) → first_in parts.frame number ≤ℤ stop.instant → stop.instant ≤ℤ end_in parts.frame number
      → test stop ≡ false)
      → filter test (stops_in parts index number) ≡ []
  stops-missed index number test within fails =
      filter-none test (stops_in parts index number)
      (λ stop among.
      let its = All-contains (IsStopIn (first_in parts.frame number) (end_in parts.frame number))
      (stops_in parts index number) stop (All-stops_in parts valid index number within) among in
      fails stop its.above its.below)

  -- the stops of a period that a window misses
  pub in_window-missed : (index number : ℕ) (from to : ℤ) → number < periods_of parts.frame
      → IsMissed parts.frame from to number → in_window from to (stops_in parts index number) ≡ []
  unfolding in_window
  in_window-missed index number from to within missed =
      stops-missed index number (λ stop. is_between from to stop.instant) within
      (λ stop low high. missed stop.instant low high)

  -- the stops of an object at an instant are in the instant's period
  pub stops_at-one : (index : ℕ) (instant : ℤ) (number : ℕ) → period_in parts.frame instant ≡ Some number
      → flat_map (λ j. filter (is_stop_at instant) (stops_in parts index j)) (numbers_in parts.frame)
      ≡ filter (is_stop_at instant) (stops_in parts index number)
  stops_at-one index instant number when =
      let header = valid.shaped.header in
      let found = period_in-some parts.frame header instant number when in
      let apart = period-apart parts.frame.span parts.frame.period header.periods.some parts.frame.first in
      flat_map-range_one (λ j. filter (is_stop_at instant) (stops_in parts index j)) number
      (periods_of parts.frame) found.0
      (λ j within other. stops-missed index j (is_stop_at instant) within
      (λ stop low high. int_eq-apart instant stop.instant (λ same.
      let above : first_in parts.frame j ≤ℤ instant = omega (arith, ints, low, same) in
      let below : instant ≤ℤ end_in parts.frame j = omega (arith, ints, high, same) in
      elim (cases_order j number) [
        | inl equal ↦ other equal
        | inr differ ↦ elim differ [
          | inl less ↦ apart j number instant less below found.1
          | inr more ↦ apart number j instant more found.2 above
        ]
      ])))

  -- at an instant of no period there are none
  pub stops_at-none : (index : ℕ) (instant : ℤ) → period_in parts.frame instant ≡ None
      → flat_map (λ j. filter (is_stop_at instant) (stops_in parts index j)) (numbers_in parts.frame) ≡ []
  stops_at-none index instant when =
      let header = valid.shaped.header in
      let outside = period_in-none parts.frame header instant when in
      flat_map-range_none (λ j. filter (is_stop_at instant) (stops_in parts index j)) 0 (periods_of parts.frame)
      (λ j low high. stops-missed index j (is_stop_at instant) (omega (arith, high))
      (λ stop above below. int_eq-apart instant stop.instant (λ same.
      let inside = period-inside parts.frame header j stop.instant (omega (arith, high)) above below in
      let covered = is_between-from parts.frame.first (last_in parts.frame) stop.instant inside.0 inside.1 in
      let clash : is_between parts.frame.first (last_in parts.frame) stop.instant ≡ false =
      ap (is_between parts.frame.first (last_in parts.frame)) (sym same) ∙ outside in
      absurd (cc))))

  -- the tests of the two questions
  is_row_of-of : (object : ℕ) (instant : ℤ) → IsOf object (is_row_of object instant)
  is_row_of-of object instant row other =
      let apart : eqb object row.object ≡ false = ne_eqb object row.object (λ same. other (sym same)) in rw apart refl

  is_row_between-of : (object : ℕ) (from to : ℤ) → IsOf object (is_row_between object from to)
  is_row_between-of object from to row other =
      let apart : eqb object row.object ≡ false = ne_eqb object row.object (λ same. other (sym same)) in rw apart refl

  module _ (object index : ℕ) (is : index_in parts.objects object ≡ Some index) where
    own : eqb object object ≡ true
    own = eq-eqb object object refl

    at_instant : (instant : ℤ) → filter (is_row_of object instant) (chart_in parts).rows ≡ map (row_of object)
        (flat_map (λ number. filter (is_stop_at instant) (stops_in parts index number)) (numbers_in parts.frame))
    at_instant instant =
        rows-known (is_row_of object instant) object index is (is_row_of-of object instant)
        ∙ ap (map (row_of object)) (flat_map_agree
        (λ number. filter (λ stop. is_row_of object instant (row_of object stop)) (stops_in parts index number))
        (λ number. filter (is_stop_at instant) (stops_in parts index number))
        (λ number. filter_agree (λ stop. is_row_of object instant (row_of object stop)) (is_stop_at instant)
        (λ stop. rw own refl) (stops_in parts index number)) (numbers_in parts.frame))

    -- an object's cell at an instant is that in the block of the instant's period
    pub cell_at-known : (instant : ℤ) (number : ℕ) → period_in parts.frame instant ≡ Some number
        → cell_at (chart_in parts).rows object instant ≡ cell_among (stops_in parts index number) instant
    unfolding cell_among
    cell_at-known instant number when =
        let stops : List Stop = filter (is_stop_at instant) (stops_in parts index number) in
        let one = stops_at-one index instant number when in
        ap (option_map (λ (row : Row). row.cell)) (find-filter (is_row_of object instant) (chart_in parts).rows
        ∙ ap (λ (rows : List Row). slice_get rows 0) (at_instant instant ∙ ap (map (row_of object)) one))
        ∙ first-cell object stops
        ∙ ap (option_map (λ (stop : Stop). stop.cell))
        (sym (find-filter (is_stop_at instant) (stops_in parts index number)))

    -- it has none at an instant outside the chart
    pub cell_at-outside : (instant : ℤ) → period_in parts.frame instant ≡ None
        → cell_at (chart_in parts).rows object instant ≡ None
    cell_at-outside instant when =
        let none = stops_at-none index instant when in
        ap (option_map (λ (row : Row). row.cell)) (find-filter (is_row_of object instant) (chart_in parts).rows
        ∙ ap (λ (rows : List Row). slice_get rows 0) (at_instant instant ∙ ap (map (row_of object)) none))

    -- its path in a window is that in each of the periods
    pub path_of-known : (from to : ℤ) → path_of (chart_in parts).rows object from to
        ≡ flat_map (λ number. in_window from to (stops_in parts index number)) (numbers_in parts.frame)
    unfolding in_window
    path_of-known from to =
        let windows : ℕ → List Stop = λ number. in_window from to (stops_in parts index number) in
        ap (map stop_of) (rows-known (is_row_between object from to) object index is (is_row_between-of object from to)
        ∙ ap (map (row_of object)) (flat_map_agree
        (λ number. filter (λ stop. is_row_between object from to (row_of object stop)) (stops_in parts index number))
        windows
        (λ number. filter_agree (λ stop. is_row_between object from to (row_of object stop))
        (λ stop. is_between from to stop.instant) (λ stop. rw own refl) (stops_in parts index number))
        (numbers_in parts.frame)))
        ∙ map-map stop_of (row_of object) (flat_map windows (numbers_in parts.frame))
        ∙ map-id (flat_map windows (numbers_in parts.frame))

  -- an unknown object is nowhere
  module _ (object : ℕ) (none : index_in parts.objects object ≡ None) where
    pub cell_at-unknown : (instant : ℤ) → cell_at (chart_in parts).rows object instant ≡ None
    cell_at-unknown instant =
        ap (option_map (λ (row : Row). row.cell)) (find-filter (is_row_of object instant) (chart_in parts).rows
        ∙ ap (λ (rows : List Row). slice_get rows 0)
        (rows-unknown (is_row_of object instant) object none (is_row_of-of object instant)))

    pub path_of-unknown : (from to : ℤ) → path_of (chart_in parts).rows object from to ≡ []
    path_of-unknown from to =
        ap (map stop_of)
        (rows-unknown (is_row_between object from to) object none (is_row_between-of object from to))

-- The rows of an instant in an index's chart: of each object in order, the stop of its block in the instant's period.
use Rattle.std.proofs.Common.{◌≡◌, ℕ, ◌<◌, ◌≤◌, ℤ, true, List, [], ◌∷◌, length, All, None, Some, map, filter, refl}
use Rattle.std.proofs.Common.{ap, sym, subst, ◌∙◌, arith}
use Rattle.std.specs.Prelude.{slice_index}
use Rattle.std.specs.List.{flat_map, range_with_len}
use Rattle.std.specs.List.Sorted.{IsStrictlySortedBy}
use Rattle.std.specs.declared.cmp.Ordering.TheVariants.{Equal, Less}
use Rattle.std.proofs.lemmas.Bool.Decides.{Decides-int_eq}
use Rattle.std.proofs.lemmas.Cmp.{tied_itself}
use Rattle.std.proofs.lemmas.List.Elements.{All-head, All-tail, filter_passes}
use Rattle.std.proofs.lemmas.List.Kept.{IsStrictlySortedBy-filter}
use Rattle.std.proofs.lemmas.Map.Keys.{sorted_head}
use Rattle.list_laws.proofs.FlatLemmas.{filter-flat_map, flat_map_agree}
use Rattle.list_laws.proofs.MapLemmas.{filter-map}
use Rattle.list_laws.proofs.RangeLemmas.{flat_map-range_none}
use Rattle.track_types.specs.ByFilter.{is_row_at}
use Rattle.track_types.specs.Frame.{periods_of}
use Rattle.track_types.specs.Row.{place_order, row_order}
use Rattle.track_types.specs.declared.parts.Parts.{Parts}
use Rattle.track_types.specs.declared.row.Row.{Row}
use Rattle.track_types.specs.declared.stop.Stop.{Stop}
use Rattle.track_types.proofs.RowLemmas.{place_order_total}
use Rattle.log_cursor.specs.Seek.{is_stop_at}
use Rattle.snapshots.specs.Parts.{chart_in, numbers_in, period_in, row_of, rows_in, stops_in}
use Rattle.snapshots.specs.SoundParts.{IsValid}
use Rattle.object_track.proofs.ChartLemmas.{stops_at-none, stops_at-one}
use Rattle.object_track.proofs.StopsLemmas.{stops_in-ascend}

-- rows of one object and one instant stand in no order
row_order-tied : (a b : Stop) → a.instant ≡ b.instant → row_order (row_of 0 a) (row_of 0 b) ≡ Equal
row_order-tied a b same =
    ap (λ (z : ℤ). place_order (0, a.instant) (0, z)) (sym same) ∙ tied_itself place_order_total (0, a.instant)

-- of stops at one instant that ascend there is at most one
few-apart : (instant : ℤ) (stops : List Stop) → All (λ stop. is_stop_at instant stop ≡ true) stops
    → IsStrictlySortedBy row_order (map (row_of 0) stops) → length stops ≤ 1
few-apart instant [] all up = omega arith
few-apart instant (stop ∷ []) all up = omega arith
few-apart instant (stop ∷ other ∷ stops) all up =
    let P : Stop → Type 0 = λ z. is_stop_at instant z ≡ true in
    let one = (Decides-int_eq instant stop.instant).0 (All-head P stop (other ∷ stops) all) in
    let two = (Decides-int_eq instant other.instant).0
    (All-head P other stops (All-tail P stop (other ∷ stops) all)) in
    let tied : row_order (row_of 0 stop) (row_of 0 other) ≡ Equal = row_order-tied stop other (sym one ∙ two) in
    let below : row_order (row_of 0 stop) (row_of 0 other) ≡ Less =
    (sorted_head row_order (row_of 0 stop) (map (row_of 0) (other ∷ stops)) up).0 in
    absurd (cc)

module _ (parts : Parts) (valid : IsValid parts) (instant : ℤ) where
  -- the rows of an object at an instant are its stops then
  rows_in-instant : (index : ℕ) → filter (is_row_at instant) (rows_in parts index)
      ≡ map (row_of (slice_index parts.objects index))
      (flat_map (λ number. filter (is_stop_at instant) (stops_in parts index number)) (numbers_in parts.frame))
  unfolding rows_in
  rows_in-instant index =
      let object : ℕ = slice_index parts.objects index in
      filter-map (is_row_at instant) (row_of object) (flat_map (stops_in parts index) (numbers_in parts.frame))
      ∙ ap (map (row_of object)) (filter-flat_map (is_stop_at instant) (stops_in parts index) (numbers_in parts.frame))

  -- the rows of an instant are those of each object's stop in the instant's period
  pub rows_at-instant : (number : ℕ) → period_in parts.frame instant ≡ Some number
      → filter (is_row_at instant) (chart_in parts).rows
      ≡ flat_map (λ index. map (row_of (slice_index parts.objects index))
      (filter (is_stop_at instant) (stops_in parts index number))) (range_with_len 0 (length parts.objects))
  unfolding chart_in
  rows_at-instant number when =
      filter-flat_map (is_row_at instant) (rows_in parts) (range_with_len 0 (length parts.objects))
      ∙ flat_map_agree (λ index. filter (is_row_at instant) (rows_in parts index))
      (λ index. map (row_of (slice_index parts.objects index))
      (filter (is_stop_at instant) (stops_in parts index number)))
      (λ index. rows_in-instant index
      ∙ ap (map (row_of (slice_index parts.objects index))) (stops_at-one parts valid index instant number when))
      (range_with_len 0 (length parts.objects))

  -- an instant of no period has none
  pub rows_at-outside : period_in parts.frame instant ≡ None → filter (is_row_at instant) (chart_in parts).rows ≡ []
  unfolding chart_in
  rows_at-outside when =
      filter-flat_map (is_row_at instant) (rows_in parts) (range_with_len 0 (length parts.objects))
      ∙ flat_map-range_none (λ index. filter (is_row_at instant) (rows_in parts index)) 0 (length parts.objects)
      (λ index low high. rows_in-instant index
      ∙ ap (map (row_of (slice_index parts.objects index))) (stops_at-none parts valid index instant when))

  -- an object has at most one stop at an instant
  pub stops_at-few : (index number : ℕ) → number < periods_of parts.frame
      → length (filter (is_stop_at instant) (stops_in parts index number)) ≤ 1
  stops_at-few index number within =
      let stops : List Stop = stops_in parts index number in
      few-apart instant (filter (is_stop_at instant) stops) (filter_passes (is_stop_at instant) stops)
      (subst (IsStrictlySortedBy row_order) (filter-map (is_row_at instant) (row_of 0) stops)
      (IsStrictlySortedBy-filter row_order (is_row_at instant) (map (row_of 0) stops)
      (stops_in-ascend parts valid index number within 0)))

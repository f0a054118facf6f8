-- The sightings of a chart at an instant are those of the blocks of the instant's period.
use Rattle.std.proofs.Common.{◌≡◌, ℕ, ◌<◌, ◌≤◌, ℤ, ◌≤ℤ◌, Bool, true, List, [], ◌∷◌, length, map, filter}
use Rattle.std.proofs.Common.{Option, None, Some, inl, inr, refl, ap, sym, ◌∙◌, arith}
use Rattle.std.specs.Prelude.{◌&&◌, option_to_list, slice_index}
use Rattle.std.specs.List.{filter_map, range_with_len}
use Rattle.std.specs.Option.{option_map}
use Rattle.std.specs.Ordering.{int_eq}
use Rattle.std.proofs.lemmas.Bool.{cases_Bool}
use Rattle.std.proofs.lemmas.Bool.Decides.{Decides-int_eq}
use Rattle.std.proofs.lemmas.Int.{ints}
use Rattle.std.proofs.lemmas.List.Elements.{filter_agree}
use Rattle.list_laws.proofs.FilterLemmas.{filter_and}
use Rattle.list_laws.proofs.FlatLemmas.{filter-flat_map, flat_map_agree}
use Rattle.list_laws.proofs.MapLemmas.{map-flat_map}
use Rattle.list_laws.proofs.OptionLemmas.{flat_map-made, made_of}
use Rattle.track_types.specs.ByFilter.{is_row_at, is_sighted, sighting_of, sightings_of}
use Rattle.track_types.specs.Frame.{periods_of}
use Rattle.track_types.specs.Region.{in_region, is_between}
use Rattle.track_types.specs.declared.parts.Parts.{Parts}
use Rattle.track_types.specs.declared.region.Region.{Region}
use Rattle.track_types.specs.declared.row.Row.{Row}
use Rattle.track_types.specs.declared.sighting.Sighting.{Sighting}
use Rattle.track_types.specs.declared.stop.Stop.{Stop}
use Rattle.track_types.proofs.RegionLemmas.{is_between-bounds, is_between-from}
use Rattle.rule_store.specs.Log.{in_window}
use Rattle.log_cursor.specs.Seek.{is_stop_at}
use Rattle.log_cursor.specs.Touching.{first_among, first_hit_of}
use Rattle.snapshots.specs.Parts.{chart_in, period_in, row_of, snapshot_in, stops_in, stops_in_block}
use Rattle.snapshots.specs.SoundParts.{IsValid}
use Rattle.snapshots.specs.View.{all_blocks, block_of}
use Rattle.snapshots.specs.declared.anchored.Anchored.{Anchored}
use Rattle.snapshots.proofs.ByObjectLemmas.{index-from_block_of}
use Rattle.object_track.proofs.InstantLemmas.{rows_at-instant, stops_at-few}
use Rattle.slice_search.specs.Sightings.{seen_at, sighting_in}
use Rattle.slice_search.specs.Sought.{first_stop_in}

-- a window of one instant
is_between-one : (instant z : ℤ) → is_between instant instant z ≡ int_eq instant z
is_between-one instant z = elim (cases_Bool (int_eq instant z)) [
  | inl same ↦
      let is : instant ≡ z = (Decides-int_eq instant z).0 same in
      is_between-from instant instant z (omega (arith, ints, is)) (omega (arith, ints, is)) ∙ sym same
  | inr other ↦ elim (cases_Bool (is_between instant instant z)) [
    | inl held ↦
        let bounds = is_between-bounds instant instant z held in
        let above : instant ≤ℤ z = bounds.0 in
        let below : z ≤ℤ instant = bounds.1 in
        let is : instant ≡ z = omega (arith, ints) in
        let same : int_eq instant z ≡ true = (Decides-int_eq instant z).1 is in
        cc
    | inr fails ↦ fails ∙ sym other
  ]
]

pub in_window-one : (instant : ℤ) (stops : List Stop) → in_window instant instant stops ≡ filter (is_stop_at instant) stops
unfolding in_window
in_window-one instant stops =
    filter_agree (λ stop. is_between instant instant stop.instant) (is_stop_at instant)
    (λ stop. is_between-one instant stop.instant) stops

-- whether a row is in the region
abbrev pub is_row_in : Region → Row → Bool
is_row_in region row = in_region region row.cell

-- of at most one stop, what is sighted is what is first found in the region
seen-few : (object : ℕ) (region : Region) (stops : List Stop) → length stops ≤ 1
    → map sighting_of (filter (is_row_in region) (map (row_of object) stops))
    ≡ option_to_list (option_map (seen_at object) (first_among region stops))
seen-few object region [] few = refl
seen-few object region (stop ∷ []) few = elim (cases_Bool (in_region region stop.cell)) [
  | inl held ↦ rw held refl
  | inr fails ↦ rw fails refl
]
seen-few object region (stop ∷ other ∷ stops) few = absurd (omega (arith, few))

-- both tests in the other order
pub filter_both : (instant : ℤ) (region : Region) (rows : List Row)
    → filter (is_sighted instant region) rows ≡ filter (is_row_in region) (filter (is_row_at instant) rows)
filter_both instant region rows =
    filter_agree (is_sighted instant region) (λ row. is_row_in region row && is_row_at instant row)
    (λ row. grind arith) rows
    ∙ filter_and (is_row_in region) (is_row_at instant) rows

module _ (parts : Parts) (valid : IsValid parts) (instant : ℤ) (number : ℕ) (within : number < periods_of parts.frame)
    (region : Region) where
  -- what is sighted of an object
  sighted : ℕ → List Sighting
  sighted index = map sighting_of (filter (is_row_in region) (map (row_of (slice_index parts.objects index))
      (filter (is_stop_at instant) (stops_in parts index number))))

  -- what is sighted of an object is what is found in its block
  sighted-block : (index : ℕ) → sighted index
      ≡ made_of (sighting_in parts number instant instant region) (block_of (snapshot_in parts number))
      (block_of (snapshot_in parts number) index)
  unfolding sighted sighting_in first_stop_in first_hit_of stops_in
  sighted-block index =
      by_block (block_of (snapshot_in parts number) index) refl (stops_at-few parts valid instant index number within)
    where
      object : ℕ
      object = slice_index parts.objects index

      by_block : (found : Option Anchored) → block_of (snapshot_in parts number) index ≡ found
          → length (filter (is_stop_at instant) (stops_in_block parts number found)) ≤ 1
          → map sighting_of (filter (is_row_in region)
          (map (row_of object) (filter (is_stop_at instant) (stops_in_block parts number found))))
          ≡ made_of (sighting_in parts number instant instant region) (block_of (snapshot_in parts number)) found
      by_block None has few = refl
      by_block (Some block) has few =
          let stops : List Stop = stops_in_block parts number (Some block) in
          seen-few object region (filter (is_stop_at instant) stops) few
          ∙ ap (λ i. option_to_list (option_map (seen_at (slice_index parts.objects i))
          (first_among region (filter (is_stop_at instant) stops))))
          (sym (index-from_block_of (snapshot_in parts number) index block has))
          ∙ ap (λ xs. option_to_list (option_map (seen_at (slice_index parts.objects block.index))
          (first_among region xs))) (sym (in_window-one instant stops))

  -- the sightings of the chart are those of the period's blocks
  pub sightings_of-blocks : period_in parts.frame instant ≡ Some number
      → sightings_of (chart_in parts).rows instant region
      ≡ filter_map (sighting_in parts number instant instant region) (all_blocks (snapshot_in parts number))
  unfolding sightings_of all_blocks sighted
  sightings_of-blocks when =
      let indices : List ℕ = range_with_len 0 (length parts.objects) in
      let rows : ℕ → List Row = λ index. map (row_of (slice_index parts.objects index))
      (filter (is_stop_at instant) (stops_in parts index number)) in
      ap (map sighting_of) (filter_both instant region (chart_in parts).rows
      ∙ ap (filter (is_row_in region)) (rows_at-instant parts valid instant number when)
      ∙ filter-flat_map (is_row_in region) rows indices)
      ∙ map-flat_map sighting_of (λ index. filter (is_row_in region) (rows index)) indices
      ∙ flat_map_agree sighted (λ index. made_of (sighting_in parts number instant instant region)
      (block_of (snapshot_in parts number)) (block_of (snapshot_in parts number) index)) sighted-block indices
      ∙ flat_map-made (sighting_in parts number instant instant region) (block_of (snapshot_in parts number)) indices

-- The chart of an index is a table: its rows ascend, and lie within it.
use Rattle.std.proofs.Common.{◌≡◌, ℕ, ◌<◌, List, length, get_or, All, Some, eqb, map, refl, sym, subst, arith}
use Rattle.std.specs.Prelude.{slice_index}
use Rattle.std.specs.List.{flat_map}
use Rattle.std.specs.List.Sorted.{IsStrictlySortedBy}
use Rattle.std.specs.declared.cmp.Ordering.TheVariants.{Less}
use Rattle.std.proofs.lemmas.Bool.{eq-eqb, ne_eqb}
use Rattle.std.proofs.lemmas.Int.{ints}
use Rattle.std.proofs.lemmas.List.Elements.{All-map, All-weaker}
use Rattle.list_laws.proofs.FindLemmas.{find_in_range-first}
use Rattle.list_laws.proofs.MapLemmas.{map-flat_map}
use Rattle.list_laws.proofs.RangeLemmas.{All-flat_map_range, IsStrictlySortedBy-flat_map_range}
use Rattle.track_types.specs.Frame.{periods_of}
use Rattle.track_types.specs.Near.{IsCellAsked, IsCellWithin}
use Rattle.track_types.specs.Row.{row_order}
use Rattle.track_types.specs.Table.{IsRowOf, IsTable}
use Rattle.track_types.specs.declared.cell.Cell.{Cell}
use Rattle.track_types.specs.declared.parts.Parts.{Parts}
use Rattle.track_types.specs.declared.stop.Stop.{Stop}
use Rattle.snapshots.specs.Parts.{chart_in, end_in, first_in, index_in, numbers_in, row_of, rows_in, stops_in}
use Rattle.snapshots.specs.SoundParts.{IsValid}
use Rattle.list_laws.proofs.IncreasingLemmas.{increasing-below}
use Rattle.object_track.proofs.MetLemmas.{period-before, period-inside}
use Rattle.object_track.proofs.StopsLemmas.{All-stops_in, row_order-greater, row_order-later, stops_in-ascend, IsStopIn}

-- a cell that is near
pub IsCellWithin-asked : (cell : Cell) → IsCellAsked cell → IsCellWithin cell
IsCellWithin-asked cell near = record {
  x = record { low = omega (arith, ints, near.x.low); high = omega (arith, ints, near.x.high) };
  y = record { low = omega (arith, ints, near.y.low); high = omega (arith, ints, near.y.high) };
}

module _ (parts : Parts) (valid : IsValid parts) where
  -- the object at a place stands at no other place
  pub index_in-own : (place : ℕ) → place < length parts.objects
      → index_in parts.objects (slice_index parts.objects place) ≡ Some place
  index_in-own place within =
      let object : ℕ = slice_index parts.objects place in
      find_in_range-first (λ i. eqb (slice_index parts.objects i) object) 0 (length parts.objects) place
      (omega arith) (omega (arith, within))
      (λ j low less.
      let below = increasing-below parts.objects valid.shaped.objects j place less within in
      ne_eqb (slice_index parts.objects j) object (λ same. omega (arith, below, same)))
      (eq-eqb object object refl)

  -- the stops of an object
  abbrev stops_of_all : ℕ → List Stop
  stops_of_all index = flat_map (stops_in parts index) (numbers_in parts.frame)

  -- the rows of an object ascend
  rows_in-ascend : (index : ℕ) → IsStrictlySortedBy row_order (rows_in parts index)
  unfolding rows_in
  rows_in-ascend index =
      let object : ℕ = slice_index parts.objects index in
      subst (IsStrictlySortedBy row_order)
      (sym (map-flat_map (row_of object) (stops_in parts index) (numbers_in parts.frame)))
      (IsStrictlySortedBy-flat_map_range row_order (λ number. map (row_of object) (stops_in parts index number)) 0
      (periods_of parts.frame)
      (λ j low high. stops_in-ascend parts valid index j (omega (arith, high)) object)
      (λ i j low less high.
      let within : j < periods_of parts.frame = omega (arith, high) in
      let before = period-before parts.frame valid.shaped.header i j less within in
      All-map (λ x. All (λ y. row_order x y ≡ Less) (map (row_of object) (stops_in parts index j))) (row_of object)
      (stops_in parts index i)
      (All-weaker (IsStopIn (first_in parts.frame i) (end_in parts.frame i))
      (λ stop. All (λ y. row_order (row_of object stop) y ≡ Less) (map (row_of object) (stops_in parts index j)))
      (λ stop its.
      All-map (λ y. row_order (row_of object stop) y ≡ Less) (row_of object) (stops_in parts index j)
      (All-weaker (IsStopIn (first_in parts.frame j) (end_in parts.frame j))
      (λ other. row_order (row_of object stop) (row_of object other) ≡ Less)
      (λ other also. row_order-later object stop other (omega (arith, ints, its.below, also.above, before)))
      (stops_in parts index j) (All-stops_in parts valid index j within)))
      (stops_in parts index i) (All-stops_in parts valid index i (omega (arith, less, within))))))

  -- those of earlier objects come first
  rows_in-before : (i j : ℕ) → i < j → j < length parts.objects
      → All (λ x. All (λ y. row_order x y ≡ Less) (rows_in parts j)) (rows_in parts i)
  unfolding rows_in
  rows_in-before i j less within =
      let below = increasing-below parts.objects valid.shaped.objects i j less within in
      let first : ℕ = slice_index parts.objects i in
      let second : ℕ = slice_index parts.objects j in
      All-map (λ x. All (λ y. row_order x y ≡ Less) (map (row_of second) (stops_of_all j))) (row_of first)
      (stops_of_all i)
      (λ k d inside. All-map (λ y. row_order (row_of first (get_or (stops_of_all i) k d)) y ≡ Less) (row_of second)
      (stops_of_all j)
      (λ l e also. row_order-greater first second (get_or (stops_of_all i) k d) (get_or (stops_of_all j) l e) below))

  -- each lies within the chart
  rows_in-within : (index : ℕ) → All (IsRowOf (chart_in parts)) (rows_in parts index)
  unfolding rows_in chart_in
  rows_in-within index =
      let object : ℕ = slice_index parts.objects index in
      All-map (IsRowOf (chart_in parts)) (row_of object) (stops_of_all index)
      (All-flat_map_range (λ stop. IsRowOf (chart_in parts) (row_of object stop)) (stops_in parts index) 0
      (periods_of parts.frame)
      (λ j low high.
      let within : j < periods_of parts.frame = omega (arith, high) in
      All-weaker (IsStopIn (first_in parts.frame j) (end_in parts.frame j))
      (λ stop. IsRowOf (chart_in parts) (row_of object stop))
      (λ stop its.
      let inside = period-inside parts.frame valid.shaped.header j stop.instant within its.above its.below in
      record { begins = inside.0; ends = inside.1; cell = IsCellWithin-asked stop.cell its.near })
      (stops_in parts index j) (All-stops_in parts valid index j within)))

  -- the chart of an index is a table
  pub IsTable-chart_in : IsTable (chart_in parts)
  unfolding chart_in
  IsTable-chart_in =
      let header = valid.shaped.header in
      record {
        ascending = IsStrictlySortedBy-flat_map_range row_order (rows_in parts) 0 (length parts.objects)
            (λ j low high. rows_in-ascend j)
            (λ i j low less high. rows_in-before i j less (omega (arith, high)));
        rows = All-flat_map_range (IsRowOf (chart_in parts)) (rows_in parts) 0 (length parts.objects)
            (λ j low high. rows_in-within j);
        first = record {
          low = omega (arith, ints, header.begins);
          high = omega (arith, ints, header.ends);
        };
        last = record {
          low = omega (arith, ints, header.begins);
          high = omega (arith, ints, header.ends);
        };
      }

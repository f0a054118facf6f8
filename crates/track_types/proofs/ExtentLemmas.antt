-- The least and the greatest of numbers that are near.
use Rattle.std.proofs.Common.{◌≡◌, ◌∷◌, ◌++◌, ◌<◌, ◌^◌, ◌-◌, List, [], All, length, map, refl, ap, ◌∙◌, arith}
use Rattle.std.specs.Prelude.{ℤ, fold, pos, negsuc}
use Rattle.std.specs.Int.{int_max, int_min}
use Rattle.std.proofs.lemmas.Int.{ints}
use Rattle.std.proofs.lemmas.List.{map-append}
use Rattle.std.proofs.lemmas.List.Elements.{All-head, All-map}
use Rattle.std.proofs.lemmas.List.Sums.{fold-append}
use Rattle.track_types.specs.Extents.{AreExtentsOf, IsExtentOf, extent_over, extents_over, no_extent, widened}
use Rattle.track_types.specs.Near.{IsNear, IsRowInRange}
use Rattle.track_types.specs.Quantities.{greatest, least}
use Rattle.track_types.specs.declared.extents.Extent.{Extent}
use Rattle.track_types.specs.declared.extents.Extents.{Extents}
use Rattle.track_types.specs.declared.row.Row.{Row}
use Rattle.track_types.proofs.QuantityLemmas.{greatest_keeps, least_keeps}

-- the first number is all of an extent
min_first : (x : ℤ) → IsNear x → int_min (pos (2 ^ 63 - 1)) x ≡ x
min_first x near = let high = near.high in grind (arith, ints)

max_first : (x : ℤ) → IsNear x → int_max (negsuc (2 ^ 63 - 1)) x ≡ x
max_first x near = let low = near.low in grind (arith, ints)

all_of_first : (x : ℤ) → IsNear x → widened no_extent x ≡ (record { least = x; greatest = x })
all_of_first x near = rw (min_first x near, max_first x near) refl

-- an extent that is widened by numbers
extent-from : (a b : ℤ) (zs : List ℤ) →
    fold widened (record { least = a; greatest = b }) zs ≡ (record { least = fold int_min a zs; greatest = fold int_max b zs })
extent-from a b [] = refl
extent-from a b (z ∷ zs) = extent-from (int_min a z) (int_max b z) zs

module _ (number : Row → ℤ) where
  -- one number more
  pub extent_over-more : (rows : List Row) (row : Row) →
      extent_over (map number (rows ++ row ∷ [])) ≡ widened (extent_over (map number rows)) (number row)
  extent_over-more rows row =
      ap extent_over (map-append number rows (row ∷ []))
      ∙ fold-append widened no_extent (map number rows) (number row ∷ [])

  -- of some numbers that are near, the extent is from the least to the greatest
  IsExtentOf-over : (rows : List Row) (extent : Extent) → 0 < length rows → All (λ row. IsNear (number row)) rows →
      extent ≡ extent_over (map number rows) → IsExtentOf number rows extent
  IsExtentOf-over [] extent some near is = absurd (omega arith)
  IsExtentOf-over (row ∷ rows) extent some near is =
      let numbers : List ℤ = map number (row ∷ rows) in
      let all : All IsNear numbers = All-map IsNear number (row ∷ rows) near in
      let from_first : extent ≡ (record { least = least numbers; greatest = greatest numbers }) =
      is ∙ ap (λ e. fold widened e (map number rows)) (all_of_first (number row) (All-head IsNear (number row) (map number rows) all))
      ∙ extent-from (number row) (number row) (map number rows) in
      record {
        near_least = rw from_first (least_keeps IsNear numbers (omega arith) all);
        near_greatest = rw from_first (greatest_keeps IsNear numbers (omega arith) all);
        least = ap (λ e. e.least) from_first;
        greatest = ap (λ e. e.greatest) from_first;
      }

-- the extents of some rows in range, found one by one, are those from the least to the greatest
pub AreExtentsOf-over : (rows : List Row) (extents : Extents) → 0 < length rows → All IsRowInRange rows →
    extents ≡ extents_over rows → AreExtentsOf rows extents
AreExtentsOf-over rows extents some near is = record {
  time = IsExtentOf-over (λ row. row.instant) rows extents.time some
      (λ k d below. (near k d below).instant) (ap (λ e. e.time) is);
  columns = IsExtentOf-over (λ row. row.cell.x) rows extents.columns some
      (λ k d below. (near k d below).x) (ap (λ e. e.columns) is);
  lines = IsExtentOf-over (λ row. row.cell.y) rows extents.lines some
      (λ k d below. (near k d below).y) (ap (λ e. e.lines) is);
}

-- The rows of a chart can be counted from the least of its extents.
use Rattle.std.proofs.Common.{◌≡◌, ◌≤ℤ◌, ◌-ℤ◌, ◌+◌, ◌^◌, ◌≤◌, ℤ, List, [], ◌∷◌, map, All, None, refl, arith}
use Rattle.std.specs.Prelude.{unsigned_abs}
use Rattle.std.proofs.lemmas.Int.{fold-int_max_bounds, fold-int_min_bounds, ints}
use Rattle.std.proofs.lemmas.List.Sorted.{IsPermutation-refl}
use Rattle.std.proofs.lemmas.List.Elements.{All-cons, All-nil}
use Rattle.list_laws.proofs.MapLemmas.{All-from_map}
use Rattle.track_types.specs.Chart.{ChartView, IsChart}
use Rattle.track_types.specs.Extents.{AreExtentsOf, IsExtentOf}
use Rattle.track_types.specs.Quantities.{greatest, least}
use Rattle.track_types.specs.declared.extents.Extents.{Extents}
use Rattle.track_types.specs.declared.extents.Extent.{Extent}
use Rattle.track_types.specs.declared.row.Row.{Row}
use Rattle.live_tail.specs.Counted.{IsCounted}
use Rattle.live_tail.specs.SmallRows.{IsCountedFrom}
use Rattle.live_tail.specs.Tail.{IsKept}
use Rattle.live_tail.specs.Chunks.{AreChunksOf}
use Rattle.live_tail.specs.declared.small_row.Origin.{Origin}

low-of : (number : Row → ℤ) (rows : List Row) → All (λ row. least (map number rows) ≤ℤ number row) rows
low-of number [] = All-nil (λ row. least (map number []) ≤ℤ number row)
low-of number (row ∷ rows) =
    let z : ℤ = least (map number (row ∷ rows)) in
    let bounds = fold-int_min_bounds (number row) (map number rows) z refl in
    All-from_map (λ y. z ≤ℤ y) number (row ∷ rows) (All-cons (λ y. z ≤ℤ y) (number row) (map number rows) bounds.0 bounds.1)

high-of : (number : Row → ℤ) (rows : List Row) → All (λ row. number row ≤ℤ greatest (map number rows)) rows
high-of number [] = All-nil (λ row. number row ≤ℤ greatest (map number []))
high-of number (row ∷ rows) =
    let z : ℤ = greatest (map number (row ∷ rows)) in
    let bounds = fold-int_max_bounds (number row) (map number rows) z refl in
    All-from_map (λ y. y ≤ℤ z) number (row ∷ rows) (All-cons (λ y. y ≤ℤ z) (number row) (map number rows) bounds.0 bounds.1)

counted : (low z high : ℤ) → low ≤ℤ z → z ≤ℤ high → unsigned_abs (high -ℤ low) + 1 ≤ 2 ^ 24 → IsCounted low z
counted low z high above below width = record { low = above; high = grind (arith, ints) }

counted-of : (number : Row → ℤ) (rows : List Row) (extent : Extent) (from : ℤ) → IsExtentOf number rows extent → from ≡ extent.least
    → unsigned_abs (greatest (map number rows) -ℤ least (map number rows)) + 1 ≤ 2 ^ 24 → All (λ row. IsCounted from (number row)) rows
counted-of number rows extent from is begin width k d below =
    rw (begin, is.least) (counted _ _ _ (low-of number rows k d below) (high-of number rows k d below) width)

pub counted-chart : (chart : ChartView) (extents : Extents) (origin : Origin) → IsChart chart → AreExtentsOf chart.rows extents
    → origin.instant ≡ extents.time.least → origin.x ≡ extents.columns.least → origin.y ≡ extents.lines.least
    → All (IsCountedFrom origin) chart.rows
counted-chart chart extents origin is are time columns lines = λ k d below. record {
  instant = counted-of (λ row. row.instant) chart.rows extents.time origin.instant are.time time (omega (arith, is.span)) k d below;
  x = counted-of (λ row. row.cell.x) chart.rows extents.columns origin.x are.columns columns (omega (arith, is.extent)) k d below;
  y = counted-of (λ row. row.cell.y) chart.rows extents.lines origin.y are.lines lines (omega (arith, is.extent)) k d below;
}

-- an instant from the first to the last of a chart
pub counted-at : (chart : ChartView) (instant : ℤ) → IsChart chart → chart.first ≤ℤ instant → instant ≤ℤ chart.last → IsCounted chart.first instant
counted-at chart instant is low high =
    counted chart.first instant chart.last low high (rw (is.first, is.last) (omega (arith, is.span)))

-- a tail without a row
pub kept-none : (origin : Origin) → IsKept None origin [] [] []
unfolding AreChunksOf
kept-none origin = record {
  rows_are = refl;
  chart = tt;
  first = tt;
  sorted_are = record { moved = IsPermutation-refl []; order = λ k d low high. absurd (omega (arith, high)); stable = λ row. refl };
  chunks_are = refl;
}

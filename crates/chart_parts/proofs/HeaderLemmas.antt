-- The header of a chart's index: its height as a loop finds it, its grid, which has the cells of all rows, and its
-- ranges.
use Rattle.std.proofs.Common.{◌≡◌, ℕ, zero, suc, ◌+◌, ◌^◌, ◌<◌, ◌≤◌, ap, arith, ◌-◌, List, length, map, All, ◌∙◌}
use Rattle.std.specs.Prelude.{nat_le, ℤ, pos, ◌+ℤ◌, ◌-ℤ◌, ◌≤ℤ◌, unsigned_abs}
use Rattle.std.specs.List.{position_or_len, range_with_len, Contains}
use Rattle.std.proofs.lemmas.Bool.Decides.{nat_tests}
use Rattle.std.proofs.lemmas.List.FromFn.{get_or-range_with_len, length-range_with_len}
use Rattle.std.proofs.lemmas.List.Sums.{position_or_len_is}
use Rattle.std.proofs.lemmas.Int.{ints}
use Rattle.std.proofs.lemmas.List.{get_or_default, length-map}
use Rattle.std.proofs.lemmas.List.Elements.{Contains-get_or, All-map, All-weaker}
use Rattle.list_laws.proofs.NumberLemmas.{least_power}
use Rattle.track_types.specs.declared.limit.TheConstants.{MAX_HEIGHT}
use Rattle.k2_tree.specs.Morton.{IsInGrid}
use Rattle.movement_log.specs.Blocks.{no_row, row_at}
use Rattle.movement_log.proofs.LogLemmas.{bounded}
use Rattle.snapshots.specs.Parts.{last_in}
use Rattle.track_types.specs.Chart.{ChartView, IsChart}
use Rattle.track_types.specs.Frame.{IsFrame}
use Rattle.track_types.specs.Limits.{limit_of}
use Rattle.track_types.specs.Near.{IsNear, IsRowInRange}
use Rattle.track_types.specs.Quantities.{columns_of, extent_of, first_of, greatest, instants_of, last_of, least, lines_of}
use Rattle.track_types.specs.declared.limit.LimitKind.TheVariants.{Extent}
use Rattle.track_types.specs.declared.row.Row.{Row}
use Rattle.track_types.proofs.QuantityLemmas.{greatest_keeps, least_keeps}
use Rattle.chart_parts.specs.Header.{height_for, frame_of}

-- the first height whose grid is as wide, where no lower one's is
pub height_for-first : (extent height : ℕ) → 1 ≤ height → height ≤ MAX_HEIGHT
    → ((k : ℕ) → 1 ≤ k → k < height → 2 ^ k < extent) → extent ≤ 2 ^ height → height_for extent ≡ height
height_for-first extent (suc k) some low narrow wide =
    ap suc (first k low narrow wide MAX_HEIGHT low)
  where
    first : (k : ℕ) → suc k ≤ MAX_HEIGHT → ((j : ℕ) → 1 ≤ j → j < suc k → 2 ^ j < extent) → extent ≤ 2 ^ suc k →
        (n : ℕ) → suc k ≤ n →
        position_or_len (λ height. nat_le extent (2 ^ height)) (range_with_len 1 n) ≡ k
    first k low narrow wide n within =
        position_or_len_is (λ height. nat_le extent (2 ^ height)) (range_with_len 1 n) k 0
        (omega (arith, length-range_with_len 1 n))
        (λ j below. let less : 2 ^ (1 + j) < extent = narrow (1 + j) (omega arith) (omega arith) in
        rw (get_or-range_with_len 1 n j 0 (omega arith)) (grind (arith, nat_tests, less)))
        (λ inside. rw (get_or-range_with_len 1 n k 0 (omega arith)) (grind (arith, nat_tests, wide)))
height_for-first extent zero some low narrow wide = absurd (omega arith)

-- the grid is as wide as what it is made for, and no greater than a header may say
height_for-wide : (extent : ℕ) → extent ≤ limit_of Extent
    → (height_for extent ≤ MAX_HEIGHT) × (extent ≤ 2 ^ height_for extent)
height_for-wide extent short = least_power MAX_HEIGHT extent (omega arith) short

-- what is made of a row lies between the least and the greatest of what is made of rows
between : (f : Row → ℤ) (rows : List Row) (row : Row) → Contains rows row →
    (least (map f rows) ≤ℤ f row) × (f row ≤ℤ greatest (map f rows))
between f rows row among =
    let within : among.0 < length rows = among.1 in
    let at : row_at rows among.0 ≡ row = get_or_default rows among.0 no_row row within ∙ among.2 in
    rw at at (bounded f rows among.0 within)

inside_width : (low z high : ℤ) (width : ℕ) → low ≤ℤ z → z ≤ℤ high → unsigned_abs (high -ℤ low) + 1 ≤ width →
    unsigned_abs (z -ℤ low) < width
inside_width low z high width above below wide = omega (arith, ints)

-- the last instant of a span that begins with the first is the last of rows
first_to_last : (first last z : ℤ) → first ≤ℤ z → z ≤ℤ last → first +ℤ pos (unsigned_abs (last -ℤ first) + 1 - 1) ≡ last
first_to_last first last z above below = omega (arith, ints)

-- every row's cell is in the grid
pub row-in_grid : (chart : ChartView) → IsChart chart → (row : Row) → Contains chart.rows row →
    IsInGrid (frame_of chart).height (frame_of chart).base row.cell
unfolding frame_of
row-in_grid chart is row among =
    let extent = is.extent in
    let wide = (height_for-wide (extent_of chart.rows) (omega arith)).1 in
    let columns = between (λ other. other.cell.x) chart.rows row among in
    let lines = between (λ other. other.cell.y) chart.rows row among in
    record {
      left = columns.0;
      right = inside_width _ row.cell.x (greatest (columns_of chart.rows)) _ columns.0 columns.1 (omega arith);
      below = lines.0;
      above = inside_width _ row.cell.y (greatest (lines_of chart.rows)) _ lines.0 lines.1 (omega arith);
    }

-- the last instant of the header is that of the rows
pub last_in-frame_of : (chart : ChartView) → IsChart chart → last_in (frame_of chart) ≡ last_of chart.rows
unfolding frame_of
last_in-frame_of chart is =
    let row : Row = row_at chart.rows 0 in
    let bounds = between (λ other. other.instant) chart.rows row (Contains-get_or chart.rows 0 no_row is.some) in
    first_to_last (first_of chart.rows) (last_of chart.rows) row.instant bounds.0 bounds.1

-- the header's numbers are in their ranges
pub IsFrame-frame_of : (chart : ChartView) → IsChart chart → IsFrame (frame_of chart)
unfolding frame_of
IsFrame-frame_of chart is =
    let rows : List Row = chart.rows in
    let some = is.some in
    let extent = is.extent in
    let there : (f : Row → ℤ) → 0 < length (map f rows) = λ f. rw length-map some in
    let near : (f : Row → ℤ) → ((row : Row) → IsRowInRange row → IsNear (f row)) → All IsNear (map f rows) = λ f each.
    All-map IsNear f rows (All-weaker IsRowInRange (λ row. IsNear (f row)) each rows is.in_range) in
    let least_near : (f : Row → ℤ) → ((row : Row) → IsRowInRange row → IsNear (f row)) → IsNear (least (map f rows)) =
    λ f each. least_keeps IsNear (map f rows) (there f) (near f each) in
    let last_near = greatest_keeps IsNear (instants_of rows) (there (λ row. row.instant))
    (near (λ row. row.instant) (λ row range. range.instant)) in
    record {
      known = omega arith;
      newest = omega arith;
      periods = is.period;
      some = omega arith;
      limit = (height_for-wide (extent_of rows) (omega arith)).0;
      low = (height_for-wide (extent_of rows) (omega arith)).0;
      long = omega arith;
      short = is.span;
      begins = (least_near (λ row. row.instant) (λ row range. range.instant)).low;
      ends = rw (last_in-frame_of chart is) last_near.high;
      columns = least_near (λ row. row.cell.x) (λ row range. range.x);
      lines = least_near (λ row. row.cell.y) (λ row range. range.y);
      cells = is.cell;
      ticks = is.tick;
    }

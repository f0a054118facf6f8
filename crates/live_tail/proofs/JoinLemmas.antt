-- The rows of a chart with those of a tail: they ascend, a search finds the tail's first, and the path of an object is both
-- paths merged.
use Rattle.std.proofs.Common.{◌≡◌, ◌≤ℤ◌, ◌⊎◌, ℕ, ℤ, pos, Bool, true, List, [], ◌∷◌, ◌++◌, filter, find, map, Ordering, Option, None, Some, refl, sym, ◌∙◌, ap, arith, inl, inr}
use Rattle.std.specs.Prelude.{not, ◌&&◌, ◌==◌, IfSome}
use Rattle.std.specs.Int.{int_max, int_min}
use Rattle.std.specs.List.{AllByRecursion, Contains}
use Rattle.std.specs.Option.{option_map, option_or}
use Rattle.std.specs.Ordering.{eq_by_cmp, int_cmp, int_eq, nat_cmp, ordering_then}
use Rattle.std.specs.declared.cmp.Ordering.TheVariants.{Equal}
use Rattle.std.proofs.lemmas.Bool.{cases_Bool}
use Rattle.std.proofs.lemmas.Bool.Decides.{nat_tests}
use Rattle.std.proofs.lemmas.Cmp.{nat_cmp_total, tied_itself}
use Rattle.std.proofs.lemmas.Int.{clamps, ints}
use Rattle.std.proofs.lemmas.List.Elements.{All-contains, Contains-append_cases}
use Rattle.std.proofs.lemmas.List.Kept.{IsStrictlySortedBy-filter}
use Rattle.std.proofs.lemmas.List.Sorted.{Contains-permutation, IsPermutation-sym}
use Rattle.list_laws.specs.Ordered.{ordered}
use Rattle.list_laws.proofs.AscendingLemmas.{find-agree}
use Rattle.list_laws.proofs.MemberLemmas.{member_of_filter}
use Rattle.list_laws.proofs.OrderedLemmas.{IsPermutation-ordered}
use Rattle.track_types.specs.ByFilter.{cell_at, is_row_between, path_of, stop_of}
use Rattle.track_types.specs.Chart.{ChartView, IsChart}
use Rattle.track_types.specs.Near.{IsAsked, IsCellWithin}
use Rattle.track_types.specs.Quantities.{first_of, last_of}
use Rattle.track_types.specs.Region.{is_between}
use Rattle.track_types.specs.Row.{IsAscending, is_row_of, row_order}
use Rattle.track_types.specs.Table.{IsRowOf, IsTable}
use Rattle.track_types.specs.declared.row.Row.{Row}
use Rattle.track_types.proofs.QuantityLemmas.{first_of-below, last_of-above}
use Rattle.track_types.proofs.RowLemmas.{eq_by_cmp-row_order, row_order_total}
pub use Rattle.path_union.proofs.RowsLemmas.{IsAscending-rows_of_both, beside-rows, rows_of_both-none, union_of-rows}
use Rattle.live_tail.specs.Join.{joint_chart, has_place, rows_beside, rows_of_tail, rows_of_both}
use Rattle.live_tail.specs.Walk.{stop_order, stops_with}
use Rattle.live_tail.proofs.CutLemmas.{All-by_members}
use Rattle.path_union.proofs.MergeLemmas.{map-merge_of, merge_of-union_of}
use Rattle.live_tail.proofs.RangeLemmas.{asked-near, near-chart, near-greatest, near-least}
use Rattle.path_union.proofs.UnionLemmas.{filter-union_of_alike, find-union_of}

find-or : (place : Row) (a b : Option Row) →
    option_map (λ (row : Row). row.cell) (option_or a b)
    ≡ option_or (option_map (λ (row : Row). row.cell) a) (option_map (λ (row : Row). row.cell) b)
find-or place None b = refl
find-or place (Some a) b = refl

-- the cell at an instant is the tail's, or else the chart's
pub cell_at-rows_of_both : (rows tail : List Row) (object : ℕ) (instant : ℤ) →
    cell_at (rows_of_both rows tail) object instant ≡ option_or (cell_at tail object instant) (cell_at rows object instant)
cell_at-rows_of_both rows tail object instant =
    let place : Row = record { object = object; instant = instant; cell = record { x = pos 0; y = pos 0 } } in
    let tied : (xs : List Row) → find (is_row_of object instant) xs ≡ find (eq_by_cmp row_order place) xs =
    λ xs. find-agree _ _ (λ row. sym (eq_by_cmp-row_order place row)) xs in
    ap (option_map (λ (row : Row). row.cell))
    (tied (rows_of_both rows tail) ∙ ap (find (eq_by_cmp row_order place)) (sym (union_of-rows tail rows))
    ∙ find-union_of row_order_total place tail rows
    ∙ ap (λ found. option_or found (find (eq_by_cmp row_order place) rows)) (sym (tied tail))
    ∙ ap (option_or (find (is_row_of object instant) tail)) (sym (tied rows)))
    ∙ find-or place (find (is_row_of object instant) tail) (find (is_row_of object instant) rows)

-- rows of one object and instant are both of a window, or neither is
same-window : (object own other : ℕ) (from to instant also : ℤ) → ((own == other) && int_eq instant also) ≡ true →
    ((object == own) && is_between from to instant) ≡ ((object == other) && is_between from to also)
same-window object own other from to instant also same = grind (arith, nat_tests)

alike-window : (object : ℕ) (from to : ℤ) (a b : Row) → eq_by_cmp row_order a b ≡ true →
    is_row_between object from to a ≡ is_row_between object from to b
alike-window object from to a b tied =
    same-window object a.object b.object from to a.instant b.instant (sym (eq_by_cmp-row_order a b) ∙ tied)

-- the rows of a window are of the object
of-object : (object own : ℕ) (b : Bool) → ((object == own) && b) ≡ true → own ≡ object
of-object object own b is = grind (arith, nat_tests)

pub all-window : (object : ℕ) (from to : ℤ) (rows : List Row) →
    AllByRecursion (λ (row : Row). row.object ≡ object) (filter (is_row_between object from to) rows)
all-window object from to [] = tt
all-window object from to (row ∷ rows) = elim (cases_Bool (is_row_between object from to row)) [
  | inl meets ↦ rw meets (of-object object row.object (is_between from to row.instant) meets, all-window object from to rows)
  | inr fails ↦ rw fails (all-window object from to rows)
]

-- rows of one object are in the order of their stops
then-same : (a b : Ordering) → a ≡ Equal → ordering_then a b ≡ b
then-same a b is = rw is refl

pub order-stops : (object : ℕ) (a b : Row) → a.object ≡ object → b.object ≡ object → row_order a b ≡ stop_order (stop_of a) (stop_of b)
order-stops object a b one other =
    let same : nat_cmp a.object b.object ≡ Equal = rw (one, other) (tied_itself nat_cmp_total object) in
    then-same (nat_cmp a.object b.object) (int_cmp a.instant b.instant) same

-- the path of an object is the tail's merged with the chart's
pub path_of-rows_of_both : (rows tail : List Row) → IsAscending rows → IsAscending tail → (object : ℕ) (from to : ℤ) →
    path_of (rows_of_both rows tail) object from to ≡ stops_with (filter (is_row_between object from to) tail) (path_of rows object from to)
path_of-rows_of_both rows tail up also object from to =
    let window : List Row → List Row = filter (is_row_between object from to) in
    ap (map stop_of)
    (ap window (sym (union_of-rows tail rows))
    ∙ filter-union_of_alike row_order_total (is_row_between object from to) (alike-window object from to) tail rows also up
    ∙ merge_of-union_of row_order_total (window tail) (window rows)
    (IsStrictlySortedBy-filter row_order (is_row_between object from to) tail also)
    (IsStrictlySortedBy-filter row_order (is_row_between object from to) rows up))
    ∙ map-merge_of row_order stop_order stop_of (λ (row : Row). row.object ≡ object) (order-stops object) (window tail) (window rows)
    (all-window object from to tail) (all-window object from to rows)

-- the rows of the chart of both
pub joint_chart-rows : (chart : ChartView) (tail : Option ChartView) → IsAscending chart.rows →
    rows_of_both chart.rows (rows_of_tail tail) ≡ (joint_chart chart tail).rows
joint_chart-rows chart None up = rows_of_both-none chart.rows up
joint_chart-rows chart (Some tail) up = refl

-- each row of both is a tail's or the chart's
pub member_of_rows_with : (rows tail : List Row) (row : Row) → Contains (rows_of_both rows tail) row → Contains tail row ⊎ Contains rows row
unfolding rows_of_both
member_of_rows_with rows tail row inside =
    let all : List Row = tail ++ rows_beside tail rows in
    elim (Contains-append_cases tail (rows_beside tail rows) row
    (Contains-permutation (ordered row_order all) all row
    (IsPermutation-sym all (ordered row_order all) (IsPermutation-ordered row_order all)) inside)) [
      | inl own ↦ inl own
      | inr other ↦ inr (member_of_filter (λ (z : Row). not (has_place tail z)) rows row other).0
    ]

lesser : (a b z : ℤ) → (a ≤ℤ z) ⊎ (b ≤ℤ z) → int_min a b ≤ℤ z
lesser a b z (inl one) = omega (arith, ints, clamps, one)
lesser a b z (inr other) = omega (arith, ints, clamps, other)

greater : (a b z : ℤ) → (z ≤ℤ a) ⊎ (z ≤ℤ b) → z ≤ℤ int_max a b
greater a b z (inl one) = omega (arith, ints, clamps, one)
greater a b z (inr other) = omega (arith, ints, clamps, other)

asked-min : (a b : ℤ) → IsAsked a → IsAsked b → IsAsked (int_min a b)
asked-min a b one other = record {
  low = omega (arith, ints, clamps, one.low, other.low);
  high = omega (arith, ints, clamps, one.high, other.high);
}

asked-max : (a b : ℤ) → IsAsked a → IsAsked b → IsAsked (int_max a b)
asked-max a b one other = record {
  low = omega (arith, ints, clamps, one.low, other.low);
  high = omega (arith, ints, clamps, one.high, other.high);
}

-- an end of a chart is asked
asked-end : (chart : ChartView) → IsChart chart → IsAsked chart.first × IsAsked chart.last
asked-end chart is = (
  rw (is.first) (asked-near _ (near-least chart.rows is.some is.in_range)),
  rw (is.last) (asked-near _ (near-greatest chart.rows is.some is.in_range)),
)

-- the chart of both is a table
pub IsTable-joint_chart : (chart : ChartView) (tail : Option ChartView) → IsTable chart → IfSome tail IsChart → IsTable (joint_chart chart tail)
IsTable-joint_chart chart None table none = table
IsTable-joint_chart chart (Some tail) table is =
    let joined : ChartView = joint_chart chart (Some tail) in
    let ends = asked-end tail is in
    record {
      ascending = IsAscending-rows_of_both chart.rows tail.rows table.ascending is.ascending;
      rows = All-by_members (IsRowOf joined) joined.rows (λ row inside. elim (member_of_rows_with chart.rows tail.rows row inside) [
        | inl own ↦
            let low : tail.first ≤ℤ row.instant = rw (is.first) (All-contains (λ (z : Row). first_of tail.rows ≤ℤ z.instant) tail.rows row (first_of-below tail.rows) own) in
            let high : row.instant ≤ℤ tail.last = rw (is.last) (All-contains (λ (z : Row). z.instant ≤ℤ last_of tail.rows) tail.rows row (last_of-above tail.rows) own) in
            record {
              begins = lesser chart.first tail.first row.instant (inr low);
              ends = greater chart.last tail.last row.instant (inr high);
              cell = All-contains (λ (z : Row). IsCellWithin z.cell) tail.rows row (near-chart tail is) own;
            }
        | inr other ↦
            let its = All-contains (IsRowOf chart) chart.rows row table.rows other in
            record {
              begins = lesser chart.first tail.first row.instant (inl its.begins);
              ends = greater chart.last tail.last row.instant (inl its.ends);
              cell = its.cell;
            }
      ]);
      first = asked-min chart.first tail.first table.first ends.0;
      last = asked-max chart.last tail.last table.last ends.1;
    }

-- the cell at an instant in the chart of both
pub cell_at-joint_chart : (chart : ChartView) (tail : Option ChartView) → IsTable chart → (object : ℕ) (instant : ℤ) →
    cell_at (joint_chart chart tail).rows object instant
    ≡ option_or (cell_at (rows_of_tail tail) object instant) (cell_at chart.rows object instant)
cell_at-joint_chart chart tail table object instant =
    ap (λ rows. cell_at rows object instant) (sym (joint_chart-rows chart tail table.ascending))
    ∙ cell_at-rows_of_both chart.rows (rows_of_tail tail) object instant

-- the path of an object in it
pub path_of-joint_chart : (chart : ChartView) (tail : Option ChartView) → IsTable chart → IsAscending (rows_of_tail tail) →
    (object : ℕ) (from to : ℤ) → path_of (joint_chart chart tail).rows object from to
    ≡ stops_with (filter (is_row_between object from to) (rows_of_tail tail)) (path_of chart.rows object from to)
path_of-joint_chart chart tail table also object from to =
    ap (λ rows. path_of rows object from to) (sym (joint_chart-rows chart tail table.ascending))
    ∙ path_of-rows_of_both chart.rows (rows_of_tail tail) table.ascending also object from to

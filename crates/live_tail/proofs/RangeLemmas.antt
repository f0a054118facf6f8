-- The cells and instants of a chart's rows are near.
use Rattle.std.proofs.Common.{◌<◌, ℤ, List, [], ◌∷◌, length, map, All, refl, sym, subst, arith, inl, inr}
use Rattle.std.proofs.lemmas.Int.{fold-int_max_reached, fold-int_min_reached, ints}
use Rattle.std.proofs.lemmas.List.Elements.{All-contains, All-head, All-tail, All-weaker}
use Rattle.list_laws.proofs.MemberLemmas.{member_of_map}
use Rattle.track_types.specs.Chart.{ChartView, IsChart}
use Rattle.track_types.specs.Near.{IsAsked, IsCellWithin, IsNear, IsRowInRange, IsWithin}
use Rattle.track_types.specs.Quantities.{first_of, last_of}
use Rattle.track_types.specs.declared.row.Row.{Row}

within-near : (z : ℤ) → IsNear z → IsWithin z
within-near z near = record { low = omega (arith, ints, near.low); high = omega (arith, ints, near.high) }

pub asked-near : (z : ℤ) → IsNear z → IsAsked z
asked-near z near = record { low = omega (arith, ints, near.low); high = omega (arith, ints, near.high) }

cell-near : (row : Row) → IsRowInRange row → IsCellWithin row.cell
cell-near row range = record { x = within-near row.cell.x range.x; y = within-near row.cell.y range.y }

-- the cells of a chart are near
pub near-chart : (chart : ChartView) → IsChart chart → All (λ (row : Row). IsCellWithin row.cell) chart.rows
near-chart chart is = All-weaker IsRowInRange (λ (row : Row). IsCellWithin row.cell) cell-near chart.rows is.in_range

-- the first and the last instant of near rows are near
pub near-least : (rows : List Row) → 0 < length rows → All IsRowInRange rows → IsNear (first_of rows)
near-least [] some all = absurd (omega arith)
near-least (row ∷ rows) some all =
    let zs : List ℤ = map (λ (z : Row). z.instant) rows in
    elim (fold-int_min_reached row.instant zs (first_of (row ∷ rows)) refl) [
      | inl is ↦ subst IsNear (sym is) (All-head IsRowInRange row rows all).instant
      | inr inside ↦
          let from = member_of_map (λ (z : Row). z.instant) rows (first_of (row ∷ rows)) inside in
          subst IsNear from.2 (All-contains IsRowInRange rows from.0 (All-tail IsRowInRange row rows all) from.1).instant
    ]

pub near-greatest : (rows : List Row) → 0 < length rows → All IsRowInRange rows → IsNear (last_of rows)
near-greatest [] some all = absurd (omega arith)
near-greatest (row ∷ rows) some all =
    let zs : List ℤ = map (λ (z : Row). z.instant) rows in
    elim (fold-int_max_reached row.instant zs (last_of (row ∷ rows)) refl) [
      | inl is ↦ subst IsNear (sym is) (All-head IsRowInRange row rows all).instant
      | inr inside ↦
          let from = member_of_map (λ (z : Row). z.instant) rows (last_of (row ∷ rows)) inside in
          subst IsNear from.2 (All-contains IsRowInRange rows from.0 (All-tail IsRowInRange row rows all) from.1).instant
    ]

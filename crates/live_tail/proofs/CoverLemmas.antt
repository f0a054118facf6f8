-- A chart has no row before its first instant, and none after its last.
use Rattle.std.proofs.Common.{◌≡◌, ◌<ℤ◌, ◌≤ℤ◌, ℕ, ℤ, List, Option, None, Some, false, refl, sym, ◌∙◌, arith}
use Rattle.std.specs.Prelude.{find, is_some}
use Rattle.std.specs.Option.{option_map}
use Rattle.std.specs.List.{list_any}
use Rattle.std.proofs.lemmas.Int.{ints}
use Rattle.std.proofs.lemmas.List.Elements.{All-weaker}
use Rattle.std.proofs.lemmas.List.Folds.{list_any_none}
use Rattle.track_types.specs.ByFilter.{cell_at}
use Rattle.track_types.specs.Chart.{ChartView, IsChart}
use Rattle.track_types.specs.Quantities.{first_of, last_of}
use Rattle.track_types.specs.Row.{is_row_of}
use Rattle.track_types.specs.declared.row.Row.{Row}
use Rattle.track_types.proofs.QuantityLemmas.{first_of-below, last_of-above}
use Rattle.live_tail.proofs.ObjectLemmas.{any_find}

module _ (chart : ChartView) (is : IsChart chart) (instant : ℤ) where
  pub none_before : instant <ℤ chart.first → (object : ℕ) → list_any (is_row_of object instant) chart.rows ≡ false
  none_before early object =
      list_any_none (is_row_of object instant) chart.rows
      (All-weaker (λ (row : Row). first_of chart.rows ≤ℤ row.instant) (λ row. is_row_of object instant row ≡ false)
      (λ row later. grind (arith, ints, early, later, is.first)) chart.rows (first_of-below chart.rows))

  pub none_after : chart.last <ℤ instant → (object : ℕ) → list_any (is_row_of object instant) chart.rows ≡ false
  none_after late object =
      list_any_none (is_row_of object instant) chart.rows
      (All-weaker (λ (row : Row). row.instant ≤ℤ last_of chart.rows) (λ row. is_row_of object instant row ≡ false)
      (λ row earlier. grind (arith, ints, late, earlier, is.last)) chart.rows (last_of-above chart.rows))

none-made : {X Y : Type 0} (f : X → Y) (found : Option X) → is_some found ≡ false → option_map f found ≡ None
none-made f None none = refl
none-made f (Some x) none = absurd (cc)

-- where there is no row there is no cell
pub no_cell : (rows : List Row) (object : ℕ) (instant : ℤ) → list_any (is_row_of object instant) rows ≡ false → cell_at rows object instant ≡ None
no_cell rows object instant none =
    none-made (λ (row : Row). row.cell) (find (is_row_of object instant) rows) (sym (any_find (is_row_of object instant) rows) ∙ none)

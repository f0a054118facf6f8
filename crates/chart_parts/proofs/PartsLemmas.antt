-- The parts of a chart are those of an index, hold that chart, and their rules stand in order.
use Rattle.std.proofs.Common.{ℕ, ◌*◌, ◌<◌, length, ap, arith, ◌≡◌, ◌∙◌, Ok, Err, IfOk, subst, sym}
use Rattle.std.specs.Prelude.{Result}
use Rattle.std.proofs.lemmas.List.Elements.{All-weaker}
use Rattle.std.proofs.lemmas.List.FromFn.{length-map-range_with_len}
use Rattle.track_types.specs.Chart.{ChartView, IsChart}
use Rattle.track_types.specs.Frame.{periods_of}
use Rattle.track_types.specs.Quantities.{objects_of}
use Rattle.track_types.specs.PartsForm.{AreShort, IsShaped}
use Rattle.snapshots.specs.View.{all_blocks}
use Rattle.snapshots.specs.Parts.{rules_in, snapshot_in, chart_in}
use Rattle.snapshots.specs.SoundParts.{AreSoundLogs, IsSound, IsSoundLog, IsValid}
use Rattle.rule_order.specs.Order.{IsSettled}
use Rattle.parts_order.proofs.SettledPartsLemmas.{settled_parts-chart, settled_parts-order, settled_parts-valid}
use Rattle.track_types.specs.declared.parts.Parts.{Parts}
use Rattle.chart_parts.specs.Header.{frame_of}
use Rattle.chart_parts.specs.PartsOf.{compressed_parts_of, period_of_chart, parts_of}
use Rattle.chart_parts.specs.Cut.{IsCutOf}
use Rattle.chart_parts.specs.declared.writing.CutChart.{CutChart}
use Rattle.chart_parts.proofs.HeaderLemmas.{IsFrame-frame_of}
use Rattle.chart_parts.proofs.LogLemmas.{periods_of-frame_of, total-compressed_parts_of, IsSoundLog-block}
use Rattle.chart_parts.proofs.ObjectLemmas.{IsStrictlyIncreasing-objects_of, objects_of-some}
use Rattle.chart_parts.proofs.BlockLemmas.{All-all_blocks, IsAnchored, chart_in-chart}
use Rattle.chart_parts.proofs.SnapshotLemmas.{shaped-periods, IsSoundPeriod-period}
use Rattle.chart_parts.proofs.RuleLemmas.{AreSoundRules-compressed_parts_of, AreLong-alphabet, AreShort-symbols, AreShortPairs-rules, narrow_symbols, IsStrictlyIncreasing-alphabet, few_rules, few_symbols, few_values}

module _ (chart : ChartView) (is : IsChart chart) where
  -- the log of each block of a period is sound
  pub AreSoundLogs-period : (number : ℕ) → number < periods_of (frame_of chart) →
      AreSoundLogs (rules_in (compressed_parts_of chart)) (snapshot_in (compressed_parts_of chart) number)
  unfolding compressed_parts_of
  AreSoundLogs-period number below =
      All-weaker (IsAnchored chart number) (IsSoundLog (frame_of chart) (rules_in (compressed_parts_of chart)) number)
      (λ block its.
      IsSoundLog-block chart is number its.anchor block its.has.among its.has.offset its.has.cell its.has.logged)
      (all_blocks (snapshot_in (compressed_parts_of chart) number)) (All-all_blocks chart is number below)

  -- the parts of a chart are sound
  pub IsSound-compressed_parts_of : IsSound (compressed_parts_of chart)
  unfolding compressed_parts_of
  IsSound-compressed_parts_of = record {
    rules = AreSoundRules-compressed_parts_of chart is;
    total = total-compressed_parts_of chart;
    periods = IsSoundPeriod-period chart is;
    logs = AreSoundLogs-period;
  }

  -- where the objects are short, the parts have the form of an index
  pub IsShaped-compressed_parts_of : AreShort (objects_of chart.rows) → IsShaped (compressed_parts_of chart)
  unfolding compressed_parts_of
  IsShaped-compressed_parts_of short =
      let blocks = is.blocks in
      let periods = ap (λ n. length (objects_of chart.rows) * n) (periods_of-frame_of chart) in
      record {
        header = IsFrame-frame_of chart is;
        some = objects_of-some chart.rows is.some;
        few = is.objects;
        blocks = omega arith;
        objects = IsStrictlyIncreasing-objects_of chart.rows is.ascending;
        short_objects = short;
        alphabet = IsStrictlyIncreasing-alphabet chart;
        long_alphabet = AreLong-alphabet chart is;
        few_values = few_values chart is;
        few_rules = few_rules chart is;
        short_rules = AreShortPairs-rules chart is;
        periods = length-map-range_with_len (period_of_chart chart) 0 (periods_of (frame_of chart));
        each = shaped-periods chart is;
        few_symbols = few_symbols chart is;
        short_symbols = AreShort-symbols chart is;
        narrow_symbols = λ new. narrow_symbols chart is;
      }

  -- and are those of an index
  pub IsValid-compressed_parts_of : AreShort (objects_of chart.rows) → IsValid (compressed_parts_of chart)
  IsValid-compressed_parts_of short =
      record { shaped = IsShaped-compressed_parts_of short; sound = IsSound-compressed_parts_of }

module _ (chart : ChartView) (is : IsChart chart) (short : AreShort (objects_of chart.rows)) where
  abbrev valid : IsValid (compressed_parts_of chart)
  valid = IsValid-compressed_parts_of chart is short

  -- they are those of an index
  pub IsValid-parts_of : IsValid (parts_of chart)
  unfolding parts_of
  IsValid-parts_of = settled_parts-valid (compressed_parts_of chart) valid

  -- they hold the chart
  pub chart_in-parts_of : chart_in (parts_of chart) ≡ chart
  unfolding parts_of
  chart_in-parts_of = settled_parts-chart (compressed_parts_of chart) valid ∙ chart_in-chart chart is

  -- and their rules stand in order
  pub IsSettled-parts_of : IsSettled (length (parts_of chart).alphabet) (parts_of chart).rules
  unfolding parts_of
  IsSettled-parts_of = settled_parts-order (compressed_parts_of chart) valid

-- what holds of the parts of a chart holds of an answer that is these, made of what was cut from the chart
pub holds_of_cut : {E : Type 0} (P : Parts → Type 0) (chart : ChartView) (cut : CutChart) → IsCutOf chart cut →
    ((is : IsChart chart) → AreShort (objects_of chart.rows) → P (parts_of chart)) → (result : Result Parts E) →
    IfOk result (λ parts. parts ≡ parts_of chart) → IfOk result P
holds_of_cut P chart cut is holds (Ok parts) these = subst P (sym these) (holds is.is (rw is.objects at is.short))
holds_of_cut P chart cut is holds (Err cause) these = these

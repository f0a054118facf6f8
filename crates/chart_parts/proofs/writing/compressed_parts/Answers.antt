use Rattle.std.proofs.Common.{◌≡◌, ◌∙◌, ap, arith, length, map, refl}
use Rattle.track_types.specs.Chart.{ChartView}
use Rattle.track_types.specs.Quantities.{object_count, objects_of}
use Rattle.movement_log.specs.Logs.{logs_of}
use Rattle.snapshots.specs.Parts.{numbers_in}
use Rattle.chart_parts.specs.Cut.{IsCutOf}
use Rattle.chart_parts.specs.Header.{frame_of}
use Rattle.chart_parts.specs.PartsOf.{compressed_parts_of, period_of_chart}
use Rattle.chart_parts.specs.PeriodWith.{chart_blocks}
use Rattle.chart_parts.proofs.HeaderLemmas.{IsFrame-frame_of}
use Rattle.chart_parts.proofs.PeriodLemmas.{AreBlocksByPeriod-own, as_many-lengths, own_lengths, periods_are}
use Rattle.chart_parts.proofs.writing.compressed_parts.Goals as goal
use Rattle.chart_parts.proofs.writing.compressed_parts.Goals.{After-as_slice-2}

pub periods_of-requires-clause-frame : goal.periods_of-requires-clause-frame
periods_of-requires-clause-frame c = rw c.requires.1.frame (IsFrame-frame_of c.requires.0 c.requires.1.is)

-- the blocks are the chart's
blocks_are : (c : After-as_slice-2) (chart : ChartView) → IsCutOf chart c.args.chart
    → c.in_ok-alphabet.field-0 ≡ chart_blocks chart
blocks_are c chart is = c.in_ok-alphabet.ensures chart (record { is = is.is; logs = is.logs })

-- the heads and the lengths that are read are the chart's
read_is : (c : After-as_slice-2) (chart : ChartView) → IsCutOf chart c.args.chart
    → (c.as_slice.result.now ≡ (logs_of chart).heads) × (c.as_slice-2.result.now ≡ own_lengths chart)
read_is c chart is = (
  c.as_slice.ensures ∙ ap (λ all. all.heads) (blocks_are c chart is),
  c.as_slice-2.ensures ∙ ap (λ all. all.logs.lengths) (blocks_are c chart is),
)

pub periods_of-requires-clause-same : goal.periods_of-requires-clause-same
periods_of-requires-clause-same c =
    let at = goal.at.periods_of-requires-clause-same c in
    let its = read_is at.After-as_slice-2 c.requires.0 c.requires.1 in
    rw (its.0, its.1) (as_many-lengths c.requires.0)

pub periods_of-requires-clause-blocks : goal.periods_of-requires-clause-blocks
periods_of-requires-clause-blocks c =
    let is = c.requires.1 in
    let at = goal.at.periods_of-requires-clause-blocks c in
    let its = read_is at.After-as_slice-2 c.requires.0 is in
    let count : c.len-count.result ≡ object_count c.requires.0.rows = omega (arith, ap length is.objects) in
    rw (is.frame, count, its.0, its.1) (AreBlocksByPeriod-own c.requires.0 is.is)

pub returns : goal.returns
unfolding compressed_parts_of
returns c chart is =
    let at = goal.at.returns c in
    let its = read_is at.After-as_slice-2 chart is in
    let blocks = blocks_are at.After-as_slice-2 chart is in
    let count : c.len-count.result ≡ object_count chart.rows = omega (arith, ap length is.objects) in
    let objects : c.new.result ≡ objects_of chart.rows = c.new.ensures ∙ is.objects in
    let made = rw (is.frame, count, its.0, its.1) at c.in_ok-periods.ensures in
    let periods : c.new-2.result ≡ map (period_of_chart chart) (numbers_in (frame_of chart)) =
    c.new-2.ensures ∙ made ∙ periods_are chart is.is in
    rw (
      is.frame,
      objects,
      ap (λ b. b.alphabet) blocks,
      ap (λ b. b.rules) blocks,
      periods,
      ap (λ b. b.logs.symbols) blocks,
    ) refl

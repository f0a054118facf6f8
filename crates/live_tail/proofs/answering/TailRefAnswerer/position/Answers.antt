use Rattle.std.proofs.Common.{◌≡◌, Option, to_z, of_z, w64, ap, sym, ◌∙◌, arith}
use Rattle.std.specs.Option.{option_or}
use Rattle.std.proofs.lemmas.Int.{ints}
use Rattle.track_types.specs.ByFilter.{cell_at}
use Rattle.track_types.specs.Chart.{ChartView}
use Rattle.track_types.specs.declared.parts.Parts.{Parts}
use Rattle.snapshots.specs.Parts.{chart_in}
use Rattle.object_track.proofs.TableLemmas.{IsTable-chart_in}
use Rattle.live_tail.specs.Cost.{cost_beside}
use Rattle.live_tail.proofs.JoinLemmas.{cell_at-joint_chart}
use Rattle.live_tail.proofs.answering.TailRefAnswerer.position.Goals as goal

pub returns-in-Some-clause-value : goal.returns-in-Some-clause-value
returns-in-Some-clause-value g c =
    let parts : Parts = c.args.self.tailed.now.parts in
    let tail : Option ChartView = c.args.self.tailed.now.tail in
    let same : to_z w64 (of_z w64 c.args.instant) ≡ c.args.instant = omega (arith, ints) in
    let own = sym (rw (c.tail.ensures, same) at c.cell_at.ensures) ∙ c.in-Some.is in
    sym (cell_at-joint_chart (chart_in parts) tail (IsTable-chart_in parts c.index.ensures.valid) c.args.object c.args.instant
    ∙ ap (λ found. option_or found (cell_at (chart_in parts).rows c.args.object c.args.instant)) own)

pub returns-in-None-clause-value : goal.returns-in-None-clause-value
returns-in-None-clause-value g c =
    let parts : Parts = c.args.self.tailed.now.parts in
    let tail : Option ChartView = c.args.self.tailed.now.tail in
    let same : to_z w64 (of_z w64 c.args.instant) ≡ c.args.instant = omega (arith, ints) in
    let own = sym (rw (c.tail.ensures, same) at c.cell_at.ensures) ∙ c.in-None.is in
    (rw (c.view-index.ensures, c.index.ensures.value, same) at c.position.ensures.value)
    ∙ sym (cell_at-joint_chart (chart_in parts) tail (IsTable-chart_in parts c.index.ensures.valid) c.args.object
    c.args.instant
    ∙ ap (λ found. option_or found (cell_at (chart_in parts).rows c.args.object c.args.instant)) own)

pub returns-in-None-clause-cost : goal.returns-in-None-clause-cost
unfolding cost_beside
returns-in-None-clause-cost g c =
    let same : to_z w64 (of_z w64 c.args.instant) ≡ c.args.instant = omega (arith, ints) in
    rw (c.view-index.ensures, c.index.ensures.value, same) at c.position.ensures.cost

pub position-requires-clause-may : goal.position-requires-clause-may
position-requires-clause-may g c =
    let same : to_z w64 (of_z w64 c.args.instant) ≡ c.args.instant = omega (arith, ints) in
    λ read needed. c.requires.may read (rw (c.view-index.ensures, c.index.ensures.value, same) at needed)

use Rattle.std.proofs.Common.{◌≡◌, to_z, of_z, w64, arith}
use Rattle.std.proofs.lemmas.Int.{ints}
use Rattle.track_types.specs.declared.parts.Parts.{Parts}
use Rattle.snapshots.specs.Parts.{chart_in}
use Rattle.object_track.proofs.TableLemmas.{IsTable-chart_in}
use Rattle.live_tail.specs.Cost.{cost_beside}
use Rattle.live_tail.proofs.FewLemmas.{rows_at-few}
use Rattle.live_tail.proofs.JoinLemmas.{joint_chart-rows}
use Rattle.live_tail.proofs.answering.TailRefAnswerer.nearest.Goals as goal

pub nearest-requires-clause-few : goal.nearest-requires-clause-few
nearest-requires-clause-few g c =
    let valid = c.index.ensures.valid in
    rw (c.view-view.ensures, c.index.ensures.value)
    (omega (arith, rows_at-few c.args.self.tailed.now.parts valid (to_z w64 (of_z w64 c.args.instant)), valid.shaped.few))

pub nearest-requires-clause-may : goal.nearest-requires-clause-may
nearest-requires-clause-may g c =
    let same : to_z w64 (of_z w64 c.args.instant) ≡ c.args.instant = omega (arith, ints) in
    λ wanted read needed. c.requires.may read (rw (c.view-view.ensures, c.index.ensures.value, same) at needed)

pub returns-clause-ok : goal.returns-clause-ok
returns-clause-ok g c =
    let parts : Parts = c.args.self.tailed.now.parts in
    let same : to_z w64 (of_z w64 c.args.instant) ≡ c.args.instant = omega (arith, ints) in
    let table = IsTable-chart_in parts c.index.ensures.valid in
    let rows = joint_chart-rows (chart_in parts) c.args.self.tailed.now.tail table.ascending in
    rw (c.view-view.ensures, c.index.ensures.value, c.tail.ensures, same, rows) at c.nearest.ensures.ok

pub returns-clause-cost : goal.returns-clause-cost
unfolding cost_beside
returns-clause-cost g c =
    let same : to_z w64 (of_z w64 c.args.instant) ≡ c.args.instant = omega (arith, ints) in
    rw (c.view-view.ensures, c.index.ensures.value, c.tail.ensures, same) at c.nearest.ensures.cost

use Rattle.std.proofs.Common.{◌≡◌, to_z, of_z, w64, arith}
use Rattle.std.proofs.lemmas.Int.{ints}
use Rattle.track_types.specs.declared.parts.Parts.{Parts}
use Rattle.snapshots.specs.Parts.{chart_in}
use Rattle.object_track.proofs.TableLemmas.{IsTable-chart_in}
use Rattle.live_tail.specs.Cost.{cost_beside}
use Rattle.live_tail.proofs.JoinLemmas.{joint_chart-rows}
use Rattle.live_tail.proofs.answering.TailRefAnswerer.slice.Goals as goal

pub returns-clause-ok : goal.returns-clause-ok
returns-clause-ok g c =
    let parts : Parts = c.args.self.tailed.now.parts in
    let same : to_z w64 (of_z w64 c.args.instant) ≡ c.args.instant = omega (arith, ints) in
    let table = IsTable-chart_in parts c.index.ensures.valid in
    let rows = joint_chart-rows (chart_in parts) c.args.self.tailed.now.tail table.ascending in
    rw (c.view-index.ensures, c.index.ensures.value, c.tail.ensures, same, rows) at c.slice.ensures.ok

pub returns-clause-cost : goal.returns-clause-cost
unfolding cost_beside
returns-clause-cost g c =
    let same : to_z w64 (of_z w64 c.args.instant) ≡ c.args.instant = omega (arith, ints) in
    rw (c.view-index.ensures, c.index.ensures.value, same) at c.slice.ensures.cost

pub slice-requires-clause-may : goal.slice-requires-clause-may
slice-requires-clause-may g c =
    let same : to_z w64 (of_z w64 c.args.instant) ≡ c.args.instant = omega (arith, ints) in
    rw (c.view-index.ensures, c.index.ensures.value, same) c.requires.may

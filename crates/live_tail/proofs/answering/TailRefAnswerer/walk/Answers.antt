use Rattle.std.proofs.Common.{◌≡◌, ◌≤◌, ◌+◌, ℕ, Option, to_z, of_z, w64, sym, ◌∙◌, arith}
use Rattle.std.proofs.lemmas.Int.{ints}
use Rattle.track_types.specs.Chart.{ChartView}
use Rattle.track_types.specs.declared.parts.Parts.{Parts}
use Rattle.snapshots.specs.Parts.{chart_in}
use Rattle.object_track.proofs.TableLemmas.{IsTable-chart_in}
use Rattle.live_tail.specs.Cost.{cost_beside}
use Rattle.live_tail.proofs.JoinLemmas.{path_of-joint_chart}
use Rattle.live_tail.proofs.answering.TailRefAnswerer.walk.Goals as goal

pub returns-clause-left : goal.returns-clause-left
returns-clause-left c =
    let parts : Parts = c.args.self.tailed.now.parts in
    let tail : Option ChartView = c.args.self.tailed.now.tail in
    let low : to_z w64 (of_z w64 c.args.from) ≡ c.args.from = omega (arith, ints) in
    let high : to_z w64 (of_z w64 c.args.to) ≡ c.args.to = omega (arith, ints) in
    let ascending = rw (c.rows.ensures.value, c.tail-tail.ensures) at c.rows.ensures.ascending in
    let own = rw (c.tail-tail.ensures, low, high) at c.track.ensures in
    let left = rw (c.view-index.ensures, c.index.ensures.value, low, high) at c.in_ok-walk.ensures.left in
    c.of.ensures.left
    ∙ rw (c.over-own.ensures, own, left)
    (sym (path_of-joint_chart (chart_in parts) tail (IsTable-chart_in parts c.index.ensures.valid) ascending c.args.object
    c.args.from c.args.to))

-- the tail's rows cost nothing
no_more : (reads bound : ℕ) → reads ≤ bound → 0 + reads ≤ bound
no_more reads bound within = omega (arith, within)

pub returns-clause-budget : goal.returns-clause-budget
unfolding cost_beside
returns-clause-budget c =
    let low : to_z w64 (of_z w64 c.args.from) ≡ c.args.from = omega (arith, ints) in
    let high : to_z w64 (of_z w64 c.args.to) ≡ c.args.to = omega (arith, ints) in
    rw c.of.ensures.budget
    (no_more _ _ (rw (c.view-index.ensures, c.index.ensures.value, low, high) at c.in_ok-walk.ensures.budget))

-- nor do they need a read, and the index's walk needs what the window does
pub returns-clause-needs : goal.returns-clause-needs
returns-clause-needs c =
    let low : to_z w64 (of_z w64 c.args.from) ≡ c.args.from = omega (arith, ints) in
    let high : to_z w64 (of_z w64 c.args.to) ≡ c.args.to = omega (arith, ints) in
    λ read needed. rw (c.view-index.ensures, c.index.ensures.value, low, high)
    at (c.in_ok-walk.ensures.needs read (c.of.ensures.needs read needed))

-- the tail's rows cost nothing until then, and the index's walk costs what it does without them
pub returns-clause-in_time : goal.returns-clause-in_time
returns-clause-in_time c = λ instant.
    let low : to_z w64 (of_z w64 c.args.from) ≡ c.args.from = omega (arith, ints) in
    let high : to_z w64 (of_z w64 c.args.to) ≡ c.args.to = omega (arith, ints) in
    let until = rw (c.view-index.ensures, c.index.ensures.value, low, high) at (c.in_ok-walk.ensures.in_time instant) in
    omega (arith, c.of.ensures.reads_past instant, until)

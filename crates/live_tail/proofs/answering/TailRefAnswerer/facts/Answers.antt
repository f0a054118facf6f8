use Rattle.std.proofs.Common.{◌≡◌, Option, None, Some, to_z, of_z, w64, ap, sym, ◌∙◌, rules}
use Rattle.std.specs.Int.{int_max, int_min}
use Rattle.track_types.specs.Chart.{ChartView}
use Rattle.track_types.specs.declared.facts.Facts.{Facts}
use Rattle.track_types.specs.declared.parts.Parts.{Parts}
use Rattle.snapshots.specs.Parts.{chart_in}
use Rattle.object_track.proofs.TableLemmas.{IsTable-chart_in}
use Rattle.track_index.specs.Facts.{facts_of}
use Rattle.live_tail.proofs.FactsLemmas.{facts-made, first-none, first-some, last-none, last-some}
use Rattle.live_tail.proofs.JoinLemmas.{IsTable-joint_chart}
use Rattle.live_tail.proofs.answering.TailRefAnswerer.facts.Goals as goal

pub returns-in_default-clause-value : goal.returns-in_default-clause-value
returns-in_default-clause-value c =
    let parts : Parts = c.args.self.tailed.now.parts in
    let tail : Option ChartView = c.args.self.tailed.now.tail in
    let facts : Facts = c.facts-facts.result in
    let is : facts ≡ facts_of parts = c.facts-facts.ensures.value ∙ ap facts_of (c.view.ensures ∙ c.index.ensures.value) in
    let none : tail ≡ None = sym c.tail.ensures ∙ c.in_default.ensures.none in
    let first : to_z w64 (of_z w64 c.facts-facts.result.first) ≡ facts.first = search rules in
    let last : to_z w64 (of_z w64 c.facts-facts.result.last) ≡ facts.last = search rules in
    facts-made parts tail facts is c.objects-objects.result _ _ c.objects-objects.ensures
    (first ∙ first-none parts tail facts is none) (last ∙ last-none parts tail facts is none)

pub returns-in_default-clause-table : goal.returns-in_default-clause-table
returns-in_default-clause-table c =
    let parts : Parts = c.args.self.tailed.now.parts in
    let tail : Option ChartView = c.args.self.tailed.now.tail in
    let none : tail ≡ None = sym c.tail.ensures ∙ c.in_default.ensures.none in
    IsTable-joint_chart (chart_in parts) tail (IsTable-chart_in parts c.index.ensures.valid) (rw none tt)

pub returns-clause-value : goal.returns-clause-value
returns-clause-value c =
    let parts : Parts = c.args.self.tailed.now.parts in
    let tail : Option ChartView = c.args.self.tailed.now.tail in
    let facts : Facts = c.facts-facts.result in
    let its = c.in-Some.ensures.some in
    let chart : ChartView = its.chart in
    let is : facts ≡ facts_of parts = c.facts-facts.ensures.value ∙ ap facts_of (c.view.ensures ∙ c.index.ensures.value) in
    let some : tail ≡ Some chart = sym c.tail.ensures ∙ c.in-Some.ensures.some.is in
    let first : to_z w64 (of_z w64 c.facts-facts.result.first) ≡ facts.first = search rules in
    let last : to_z w64 (of_z w64 c.facts-facts.result.last) ≡ facts.last = search rules in
    let least_fits : to_z w64 (of_z w64 c.min.result) ≡ c.min.result = search rules in
    let greatest_fits : to_z w64 (of_z w64 c.max.result) ≡ c.max.result = search rules in
    let first_fits : to_z w64 (of_z w64 c.in-Some.time.least) ≡ c.in-Some.time.least = search rules in
    let last_fits : to_z w64 (of_z w64 c.in-Some.time.greatest) ≡ c.in-Some.time.greatest = search rules in
    let least : to_z w64 (of_z w64 c.min.result) ≡ int_min facts.first chart.first =
    least_fits ∙ c.min.ensures.value
    ∙ ap (λ z. int_min z (to_z w64 (of_z w64 c.in-Some.time.least))) first
    ∙ ap (int_min facts.first) (first_fits ∙ sym its.first) in
    let greatest : to_z w64 (of_z w64 c.max.result) ≡ int_max facts.last chart.last =
    greatest_fits ∙ c.max.ensures.value
    ∙ ap (λ z. int_max z (to_z w64 (of_z w64 c.in-Some.time.greatest))) last
    ∙ ap (int_max facts.last) (last_fits ∙ sym its.last) in
    facts-made parts tail facts is c.objects-objects.result _ _ c.objects-objects.ensures
    (least ∙ first-some parts tail facts is chart some) (greatest ∙ last-some parts tail facts is chart some)

pub returns-clause-table : goal.returns-clause-table
returns-clause-table c =
    let parts : Parts = c.args.self.tailed.now.parts in
    let tail : Option ChartView = c.args.self.tailed.now.tail in
    let some : tail ≡ Some c.in-Some.ensures.some.chart = sym c.tail.ensures ∙ c.in-Some.ensures.some.is in
    IsTable-joint_chart (chart_in parts) tail (IsTable-chart_in parts c.index.ensures.valid)
    (rw some c.in-Some.ensures.some.sound)

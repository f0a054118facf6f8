use Rattle.std.proofs.Common.{◌≡◌, ℕ, Bool, ℤ, ◌≤◌, Option, Some, IsTrue, w64, to_z, of_z, arith, subst, sym, ◌∙◌}
use Rattle.std.specs.Prelude.{IfOk}
use Rattle.std.proofs.lemmas.Int.{ints}
use Rattle.std.proofs.lemmas.Result.{IfOk-weaker}
use Rattle.track_types.specs.ByFilter.{path_of}
use Rattle.track_types.specs.declared.cell.Cell.{Cell}
use Rattle.track_types.specs.declared.cell_box.CellBox.{CellBox}
use Rattle.track_types.specs.declared.parts.Parts.{Parts}
use Rattle.track_types.specs.declared.region.Region.{Region}
use Rattle.step_count.specs.Reads.{Read, ReadsWithin}
use Rattle.log_cursor.specs.Touching.{touches_at}
use Rattle.log_cursor.specs.Turn.{has_hull}
use Rattle.object_track.specs.Needs.{path_needs_of, track_needs}
use Rattle.slice_search.specs.Needs.{interval_needs}
use Rattle.track_index.proofs.NeedsLemmas.{left-met, left-none, met-region}
use Rattle.snapshots.specs.IndexCost.{is_met, path_cost}
use Rattle.snapshots.specs.Parts.{chart_in}
use Rattle.track_index.specs.Cost.{cost_of}
use Rattle.track_index.specs.Path.{left_needs, path_needs, path_reads_to, PathView}
use Rattle.object_track.proofs.ChartLemmas.{index_in-some, path_of-unknown}
use Rattle.object_track.proofs.BetweenLemmas.{cost_between-none, cost_between-path, stops_between-path, stops_between-none}
use Rattle.track_index.proofs.PastLemmas.{until-made}
use Rattle.track_index.proofs.UntilLemmas.{cost_until-none, cost_until-path}
use Rattle.track_index.proofs.answering.IndexRefAnswerer.walk.Goals as goal
use Rattle.track_index.proofs.answering.IndexRefAnswerer.walk.Goals.{After-new, After-new-2}

pub returns-in_default-clause-left : goal.returns-in_default-clause-left
returns-in_default-clause-left c =
    let parts : Parts = c.args.self.index.now in
    let unknown = rw c.stores-stores.ensures.value at c.in_default.ensures.value in
    let next = c.none.ensures.next in
    let behind = c.none.ensures.end in
    let nothing = stops_between-none parts 0 (to_z w64 (of_z w64 c.args.from)) (to_z w64 (of_z w64 c.args.to))
    c.none.result.next c.none.result.end (omega (arith, next, behind)) in
    let path = path_of-unknown parts c.stores-stores.ensures.valid c.args.object (sym unknown) c.args.from c.args.to in
    IfOk-weaker c.new.result _
    (λ (w : PathView). w.stops ≡ path_of (chart_in parts).rows c.args.object c.args.from c.args.to)
    (λ walk left. left ∙ nothing ∙ sym path) c.new.ensures.left

pub returns-in_default-clause-budget : goal.returns-in_default-clause-budget
unfolding cost_of
returns-in_default-clause-budget c =
    let parts : Parts = c.args.self.index.now in
    let next = c.none.ensures.next in
    let behind = c.none.ensures.end in
    let nothing = cost_between-none parts 0 (to_z w64 (of_z w64 c.args.from)) (to_z w64 (of_z w64 c.args.to))
    c.none.result.next c.none.result.end (omega (arith, next, behind)) in
    IfOk-weaker c.new.result _ (λ (w : PathView). w.reads ≤ path_cost parts c.args.object c.args.from c.args.to)
    (λ walk budget. omega (arith, budget, nothing)) c.new.ensures.budget

pub returns-in_default-clause-budget_to : goal.returns-in_default-clause-budget_to
returns-in_default-clause-budget_to c =
    let parts : Parts = c.args.self.index.now in
    let next = c.none.ensures.next in
    let behind = c.none.ensures.end in
    IfOk-weaker c.new.result _
    (λ (w : PathView). (instant : ℤ) → path_reads_to w instant ≤ path_cost parts c.args.object c.args.from instant)
    (λ walk budget instant.
    let nothing = cost_until-none parts 0 (to_z w64 (of_z w64 c.args.from)) instant c.none.result.next c.none.result.end
    (omega (arith, next, behind)) in
    omega (arith, budget instant, nothing)) c.new.ensures.budget_to

pub new-requires-2-clause-object : goal.new-requires-2-clause-object
new-requires-2-clause-object c =
    let known = rw c.stores-stores.ensures.value at c.in-Some.ensures.value in
    (index_in-some c.args.self.index.now.objects c.args.object c.in-Some.place (sym known)).0

pub returns-clause-left : goal.returns-clause-left
returns-clause-left c =
    let parts : Parts = c.args.self.index.now in
    let low : to_z w64 (of_z w64 c.args.from) ≡ c.args.from = omega (arith, ints) in
    let high : to_z w64 (of_z w64 c.args.to) ≡ c.args.to = omega (arith, ints) in
    let path = stops_between-path parts c.stores-stores.result.now c.stores-stores.ensures.value c.args.object c.in-Some.place
    _ _ c.args.from c.args.to low high c.met-periods.result.next c.met-periods.result.end c.in-Some.ensures.value
    c.met-periods.ensures c.stores-stores.ensures.valid in
    IfOk-weaker c.new-2.result _
    (λ (w : PathView). w.stops ≡ path_of (chart_in parts).rows c.args.object c.args.from c.args.to)
    (λ walk left. left ∙ path) c.new-2.ensures.left

pub returns-clause-budget : goal.returns-clause-budget
unfolding cost_of
returns-clause-budget c =
    let parts : Parts = c.args.self.index.now in
    let low : to_z w64 (of_z w64 c.args.from) ≡ c.args.from = omega (arith, ints) in
    let high : to_z w64 (of_z w64 c.args.to) ≡ c.args.to = omega (arith, ints) in
    let cost = cost_between-path parts c.stores-stores.result.now c.stores-stores.ensures.value c.args.object c.in-Some.place
    _ _ c.args.from c.args.to low high c.met-periods.result.next c.met-periods.result.end c.in-Some.ensures.value
    c.met-periods.ensures in
    IfOk-weaker c.new-2.result _ (λ (w : PathView). w.reads ≤ path_cost parts c.args.object c.args.from c.args.to)
    (λ walk budget. omega (arith, budget, cost)) c.new-2.ensures.budget

pub returns-clause-budget_to : goal.returns-clause-budget_to
returns-clause-budget_to c =
    let parts : Parts = c.args.self.index.now in
    let low : to_z w64 (of_z w64 c.args.from) ≡ c.args.from = omega (arith, ints) in
    IfOk-weaker c.new-2.result _
    (λ (w : PathView). (instant : ℤ) → path_reads_to w instant ≤ path_cost parts c.args.object c.args.from instant)
    (λ walk budget instant.
    let cost = cost_until-path parts c.stores-stores.result.now c.stores-stores.ensures.value c.args.object c.in-Some.place
    _ _ c.args.from instant low c.met-periods.result.next c.met-periods.result.end c.in-Some.ensures.value
    c.met-periods.ensures in
    omega (arith, budget instant, cost)) c.new-2.ensures.budget_to

pub returns-in_default-clause-in_time : goal.returns-in_default-clause-in_time
unfolding cost_of
returns-in_default-clause-in_time c =
    until-made c.args.self.index.now c.args.object c.args.from c.args.to c.new.result
    (returns-in_default-clause-left c) (returns-in_default-clause-budget c) (returns-in_default-clause-budget_to c)

pub returns-clause-in_time : goal.returns-clause-in_time
unfolding cost_of
returns-clause-in_time c =
    until-made c.args.self.index.now c.args.object c.args.from c.args.to c.new-2.result
    (returns-clause-left c) (returns-clause-budget c) (returns-clause-budget_to c)

-- no period is left where there is no such object
nothing-left : (c : After-new) (may : Cell → Option CellBox → Bool) (those : Read → Bool)
    → IfOk c.new.result (λ (w : PathView). ReadsWithin (path_needs may w) those)
nothing-left c may those =
    let parts : Parts = c.args.self.index.now in
    let low : ℤ = to_z w64 (of_z w64 c.args.from) in
    let high : ℤ = to_z w64 (of_z w64 c.args.to) in
    IfOk-weaker c.new.result _ (λ (w : PathView). ReadsWithin (path_needs may w) those)
    (λ walk within read needed. left-none may parts low high 0 c.none.result.next c.none.result.end c.none.ensures.end those read
    (within may read needed)) c.new.ensures.needs

pub returns-in_default-clause-needs : goal.returns-in_default-clause-needs
returns-in_default-clause-needs c =
    nothing-left (goal.at.returns-in_default-clause-needs c).After-new has_hull _

pub returns-in_default-clause-within : goal.returns-in_default-clause-within
returns-in_default-clause-within c =
    let parts : Parts = c.args.self.index.now in
    let low : ℤ = to_z w64 (of_z w64 c.args.from) in
    let high : ℤ = to_z w64 (of_z w64 c.args.to) in
    IfOk-weaker c.new.result _ (λ (w : PathView). (region : Region) → ReadsWithin (path_needs (touches_at region) w)
    (interval_needs parts c.args.from c.args.to region))
    (λ walk within region read needed. left-none (touches_at region) parts low high 0 c.none.result.next c.none.result.end
    c.none.ensures.end (interval_needs parts c.args.from c.args.to region) read (within (touches_at region) read needed))
    c.new.ensures.needs

-- of the periods that the window meets
met-left : (c : After-new-2) (may : Cell → Option CellBox → Bool) (walk : PathView) → ((other : Cell → Option CellBox → Bool)
    → ReadsWithin (path_needs other walk) (left_needs other c.args.self.index.now c.in-Some.place (to_z w64 (of_z w64 c.args.from))
    (to_z w64 (of_z w64 c.args.to)) c.met-periods.result.next c.met-periods.result.end))
    → ReadsWithin (path_needs may walk) (track_needs may c.args.self.index.now
    (is_met c.args.self.index.now.frame c.args.from c.args.to) c.args.from c.args.to (Some c.in-Some.place))
met-left c may walk within read needed =
    let parts : Parts = c.args.self.index.now in
    let next = c.met-periods.result.next in
    let behind = c.met-periods.result.end in
    let begin : ℤ = to_z w64 (of_z w64 c.args.from) in
    let end : ℤ = to_z w64 (of_z w64 c.args.to) in
    let low : begin ≡ c.args.from = omega (arith, ints) in
    let high : end ≡ c.args.to = omega (arith, ints) in
    let met = rw (c.stores-stores.ensures.value, low, high) at c.met-periods.ensures in
    left-met may parts c.args.from c.args.to c.in-Some.place next behind met read
    (subst (λ z. IsTrue (left_needs may parts c.in-Some.place z c.args.to next behind read)) low
    (subst (λ z. IsTrue (left_needs may parts c.in-Some.place begin z next behind read)) high (within may read needed)))

pub returns-clause-needs : goal.returns-clause-needs
returns-clause-needs c =
    let parts : Parts = c.args.self.index.now in
    let at = (goal.at.returns-clause-needs c).After-new-2 in
    let known = rw c.stores-stores.ensures.value at c.in-Some.ensures.value in
    IfOk-weaker c.new-2.result _
    (λ (w : PathView). ReadsWithin (path_needs has_hull w) (path_needs_of parts c.args.object c.args.from c.args.to))
    (λ walk within read needed.
    subst (λ (o : Option ℕ). IsTrue (track_needs has_hull parts (is_met parts.frame c.args.from c.args.to) c.args.from c.args.to
    o read)) known (met-left at has_hull walk within read needed)) c.new-2.ensures.needs

pub returns-clause-within : goal.returns-clause-within
returns-clause-within c =
    let parts : Parts = c.args.self.index.now in
    let at = (goal.at.returns-clause-within c).After-new-2 in
    IfOk-weaker c.new-2.result _
    (λ (w : PathView). (region : Region) → ReadsWithin (path_needs (touches_at region) w)
    (interval_needs parts c.args.from c.args.to region))
    (λ walk within region read needed. met-region parts c.stores-stores.ensures.valid c.args.from c.args.to region c.in-Some.place
    read (met-left at (touches_at region) walk within read needed)) c.new-2.ensures.needs

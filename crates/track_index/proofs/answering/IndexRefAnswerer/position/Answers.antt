use Rattle.std.proofs.Common.{◌≡◌, Some, w64, to_z, of_z, arith, sym, ◌∙◌}
use Rattle.std.proofs.lemmas.Int.{ints}
use Rattle.step_count.specs.Reads.{ofPeriod}
use Rattle.track_types.specs.declared.parts.Parts.{Parts}
use Rattle.snapshots.specs.IndexCost.{position_cost}
use Rattle.snapshots.specs.Parts.{index_in, period_in}
use Rattle.snapshots.proofs.NeedsLemmas.{is_found-same}
use Rattle.object_track.proofs.NeedsLemmas.{may-position}
use Rattle.track_index.specs.Cost.{cost_of}
use Rattle.object_track.proofs.ChartLemmas.{cell_at-known, cell_at-outside, cell_at-unknown, index_in-some}
use Rattle.object_track.proofs.MetLemmas.{period_in-some}
use Rattle.track_index.proofs.answering.IndexRefAnswerer.position.Given.{Over}
use Rattle.track_index.proofs.answering.IndexRefAnswerer.position.Goals.{In_ok-period, In_ok-place}
use Rattle.track_index.proofs.answering.IndexRefAnswerer.position.Goals as goal

-- the place that was found is the object's in the index
known : (g : Over) (c : In_ok-place g)
    → Some c.in_ok-place.place ≡ index_in c.args.self.index.now.objects c.args.object
known g c = rw c.stores-stores.ensures.value at c.in_ok-place.ensures.value

-- the period that was found is the instant's in the index
when : (g : Over) (c : In_ok-period g)
    → Some c.in_ok-period.period ≡ period_in c.args.self.index.now.frame c.args.instant
when g c =
    let same : to_z w64 (of_z w64 c.args.instant) ≡ c.args.instant = omega (arith, ints) in
    rw (c.stores-stores.ensures.value, same) at c.in_ok-period.ensures.value

pub returns-in_err-place-clause-value : goal.returns-in_err-place-clause-value
returns-in_err-place-clause-value g c =
    let none = rw c.stores-stores.ensures.value at c.in_err-place.ensures.value in
    c.from_residual.ensures ∙ sym (cell_at-unknown c.args.self.index.now c.stores-stores.ensures.valid c.args.object
    (sym none) c.args.instant)

pub returns-in_err-period-clause-value : goal.returns-in_err-period-clause-value
returns-in_err-period-clause-value g c =
    let same : to_z w64 (of_z w64 c.args.instant) ≡ c.args.instant = omega (arith, ints) in
    let none = rw (c.stores-stores.ensures.value, same) at c.in_err-period.ensures.value in
    c.from_residual-in_err-period.ensures
    ∙ sym (cell_at-outside c.args.self.index.now c.stores-stores.ensures.valid c.args.object c.in_ok-place.place
    (sym (known g (goal.at.returns-in_err-period-clause-value g c).In_ok-place)) c.args.instant (sym none))

pub cell_in-requires-clause-place : goal.cell_in-requires-clause-place
cell_in-requires-clause-place g c =
    (index_in-some c.stores-stores.result.now.objects c.args.object c.in_ok-place.place
    (sym c.in_ok-place.ensures.value)).0

pub cell_in-requires-clause-period : goal.cell_in-requires-clause-period
cell_in-requires-clause-period g c =
    rw c.stores-stores.ensures.value
    (period_in-some c.args.self.index.now.frame c.stores-stores.ensures.valid.shaped.header c.args.instant
    c.in_ok-period.period (sym (when g (goal.at.cell_in-requires-clause-period g c).In_ok-period))).0

pub cell_in-requires-clause-may : goal.cell_in-requires-clause-may
cell_in-requires-clause-may g c =
    let found = period_in c.args.self.index.now.frame c.args.instant in
    c.requires.may (ofPeriod c.in_ok-period.period) (is_found-same found c.in_ok-period.period
    (sym (when g (goal.at.cell_in-requires-clause-may g c).In_ok-period)))

pub cell_in-requires-clause-log : goal.cell_in-requires-clause-log
cell_in-requires-clause-log g c =
    let parts : Parts = c.args.self.index.now in
    let at = goal.at.cell_in-requires-clause-log g c in
    let place = c.in_ok-place.place in
    let number = c.in_ok-period.period in
    let same : to_z w64 (of_z w64 c.args.instant) ≡ c.args.instant = omega (arith, ints) in
    let when : period_in parts.frame c.args.instant ≡ Some number = sym (when g at.In_ok-period) in
    let below = (period_in-some parts.frame c.stores-stores.ensures.valid.shaped.header c.args.instant number when).0 in
    rw (c.stores-stores.ensures.value, same)
    (may-position g.L.Reads.may parts c.args.object c.args.instant c.requires.may place number below
    (sym (known g at.In_ok-place)) when)

pub returns-clause-value : goal.returns-clause-value
returns-clause-value g c =
    let parts : Parts = c.args.self.index.now in
    let at = goal.at.returns-clause-value g c in
    let same : to_z w64 (of_z w64 c.args.instant) ≡ c.args.instant = omega (arith, ints) in
    (rw (c.stores-stores.ensures.value, same) at c.cell_in.ensures.value)
    ∙ sym (cell_at-known parts c.stores-stores.ensures.valid c.args.object c.in_ok-place.place
    (sym (known g at.In_ok-place)) c.args.instant c.in_ok-period.period (sym (when g at.In_ok-period)))

pub returns-clause-cost : goal.returns-clause-cost
unfolding cost_of position_cost
returns-clause-cost g c =
    let at = goal.at.returns-clause-cost g c in
    rw (← known g at.In_ok-place, ← when g at.In_ok-period) (rw c.stores-stores.ensures.value at c.cell_in.ensures.cost)

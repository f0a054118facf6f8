use Rattle.std.proofs.Common.{◌≡◌, ◌∙◌, IsTrue, Option, w64, to_z, of_z, arith, ap, subst, sym}
use Rattle.std.proofs.lemmas.Int.{ints}
use Rattle.rule_store.specs.Log.{log_of}
use Rattle.rule_store.specs.Needs.{places_of}
use Rattle.log_cursor.specs.Seek.{cell_among}
use Rattle.snapshots.specs.Parts.{stops_in}
use Rattle.snapshots.specs.declared.anchored.Anchored.{Anchored}
use Rattle.object_track.specs.Needs.{seek_needs}
use Rattle.object_track.proofs.NeedsLemmas.{seek_needs-found}
use Rattle.object_track.proofs.PositionLemmas.{cell_among-absent, cell_among-present, position_cost_in-present}
use Rattle.object_track.proofs.position.cell_in.Goals as goal

pub returns-in_err-block-clause-value : goal.returns-in_err-block-clause-value
returns-in_err-block-clause-value g c =
    c.from_residual.ensures ∙ sym (cell_among-absent c.args.stores.now c.args.place c.args.period c.args.instant
    c.in_err-block.ensures.value)

pub seek-requires-clause-may : goal.seek-requires-clause-may
seek-requires-clause-may g c =
    let parts = c.args.stores.now in
    let placed = c.new-placed.ensures in
    let log = c.new-placed.result.log in
    let same : to_z w64 (of_z w64 c.args.instant) ≡ c.args.instant = omega (arith, ints) in
    let found = seek_needs-found parts c.args.period c.args.instant _ same c.in_ok-block.block log.rules.now (log_of log)
    c.new-placed.result.start placed.rules placed.log placed.start (places_of log) placed.places in
    λ read needed. c.requires.log read
    (subst (λ (block : Option Anchored). IsTrue (seek_needs parts c.args.period c.args.instant block read))
    c.in_ok-block.ensures.value (found read needed))

pub returns-clause-value : goal.returns-clause-value
returns-clause-value g c =
    let same : to_z w64 (of_z w64 c.args.instant) ≡ c.args.instant = omega (arith, ints) in
    c.seek.ensures.value
    ∙ cell_among-present c.args.stores.now c.args.place c.args.period _ c.in_ok-block.block c.new-placed.result.log.rules.now (log_of c.new-placed.result.log)
    c.new-placed.result.start c.in_ok-block.ensures.value c.new-placed.ensures.rules c.new-placed.ensures.log
    c.new-placed.ensures.start
    ∙ ap (cell_among (stops_in c.args.stores.now c.args.place c.args.period)) same

pub returns-clause-cost : goal.returns-clause-cost
returns-clause-cost g c =
    let most = position_cost_in-present c.args.stores.now c.args.place c.args.period c.args.instant
    c.in_ok-block.block c.new-placed.result.log.rules.now
    (log_of c.new-placed.result.log) c.new-placed.result.start c.in_ok-block.ensures.value
    c.new-placed.ensures.rules c.new-placed.ensures.log c.new-placed.ensures.start in
    omega (arith, most, c.find.ensures.cost, c.seek.ensures.cost)

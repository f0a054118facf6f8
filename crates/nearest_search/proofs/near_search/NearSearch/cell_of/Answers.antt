use Rattle.std.proofs.Common.{◌≡◌, ◌∙◌, w64, to_z, of_z, arith, ap}
use Rattle.std.proofs.lemmas.Int.{ints}
use Rattle.rule_store.specs.Log.{log_of}
use Rattle.log_cursor.specs.Seek.{cell_among}
use Rattle.snapshots.specs.Parts.{stops_of}
use Rattle.nearest_search.proofs.FoundLemmas.{cell-sought, cell-within, seek-paid}
use Rattle.rule_store.specs.Needs.{places_of}
use Rattle.object_track.proofs.NeedsLemmas.{seek_needs-found}
use Rattle.nearest_search.proofs.NeedsLemmas.{near-within}
use Rattle.nearest_search.proofs.near_search.NearSearch.cell_of.Goals as goal

pub returns-clause-value : goal.returns-clause-value
returns-clause-value g c =
    let query = c.args.self.now in
    let is = c.requires.search.is in
    let same : to_z w64 (of_z w64 query.instant) ≡ query.instant = omega (arith, ints) in
    c.seek.ensures.value
    ∙ cell-sought query.stores.now is.valid query.period is.within query.instant query.vantage.cell c.args.block.now
    c.new-placed.result.log.rules.now (log_of c.new-placed.result.log) c.new-placed.result.start
    c.new-placed.ensures.rules c.new-placed.ensures.log c.new-placed.ensures.start _
    ∙ ap (cell_among (stops_of query.stores.now query.period c.args.block.now)) same

pub returns-clause-within : goal.returns-clause-within
returns-clause-within g c =
    let query = c.args.self.now in
    let is = c.requires.search.is in
    cell-within query.stores.now is.valid query.period is.within query.instant query.vantage.cell c.args.block.now
    c.requires.block c.seek.result (returns-clause-value g c)

pub returns-clause-cost : goal.returns-clause-cost
returns-clause-cost g c =
    let query = c.args.self.now in
    let is = c.requires.search.is in
    let paid = seek-paid query.stores.now is.valid query.period is.within query.instant query.vantage.cell c.args.block.now
    c.new-placed.result.log.rules.now (log_of c.new-placed.result.log) c.new-placed.result.start
    c.new-placed.ensures.rules c.new-placed.ensures.log c.new-placed.ensures.start in
    omega (arith, paid, c.seek.ensures.cost)

pub seek-requires-clause-may : goal.seek-requires-clause-may
seek-requires-clause-may g c =
    let query = c.args.self.now in
    let is = c.requires.search.is in
    let placed = c.new-placed.ensures in
    let log = c.new-placed.result.log in
    let same : to_z w64 (of_z w64 query.instant) ≡ query.instant = omega (arith, ints) in
    let found = seek_needs-found query.stores.now query.period query.instant _ same c.args.block.now log.rules.now (log_of log)
    c.new-placed.result.start placed.rules placed.log placed.start (places_of log) placed.places in
    let near = near-within query.stores.now is.valid query.period is.within query.instant c.args.block.now c.requires.block in
    λ read needed. c.requires.logs read (near read (found read needed))

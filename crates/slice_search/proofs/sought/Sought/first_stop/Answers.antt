use Rattle.std.proofs.Common.{◌≡◌, w64, to_z, of_z, ◌∙◌, sym, arith}
use Rattle.std.proofs.lemmas.Int.{ints}
use Rattle.object_track.proofs.BlockLemmas.{block-known}
use Rattle.rule_store.specs.Log.{log_of}
use Rattle.slice_search.specs.Needs.{period_rule}
use Rattle.slice_search.proofs.HitLemmas.{first_stop-found, log_reads-found, touching_rule-found}
use Rattle.slice_search.proofs.NeedsLemmas.{block-within, block_rule-within}
use Rattle.rule_store.specs.Needs.{places_of}
use Rattle.snapshots.specs.Parts.{snapshot_in}
use Rattle.slice_search.proofs.sought.Sought.first_stop.Goals as goal

pub returns-clause-value : goal.returns-clause-value
returns-clause-value g c =
    let self = c.args.self.now in
    let placed = c.new-placed.ensures in
    let low : to_z w64 (of_z w64 self.from) ≡ self.from = omega (arith, ints) in
    let high : to_z w64 (of_z w64 self.to) ≡ self.to = omega (arith, ints) in
    let same = first_stop-found self.stores.now self.period self.from self.to _ _ low high self.test.now.region
    c.args.block.now c.new-placed.result.log.rules.now (log_of c.new-placed.result.log) c.new-placed.result.start
    placed.rules placed.log placed.start in
    c.first_hit_with.ensures.value ∙ same

pub returns-clause-object : goal.returns-clause-object
returns-clause-object g c =
    let self = c.args.self.now in
    block-known self.stores.now c.frame.ensures.valid self.period self.known c.args.block.now c.requires.block

pub returns-clause-cost : goal.returns-clause-cost
returns-clause-cost g c =
    let self = c.args.self.now in
    let placed = c.new-placed.ensures in
    let low : to_z w64 (of_z w64 self.from) ≡ self.from = omega (arith, ints) in
    let high : to_z w64 (of_z w64 self.to) ≡ self.to = omega (arith, ints) in
    let most = log_reads-found self.stores.now self.period self.from self.to _ _ low high self.test.now.region
    c.args.block.now c.new-placed.result.log.rules.now (log_of c.new-placed.result.log) c.new-placed.result.start
    placed.rules placed.log placed.start in
    omega (arith, most, c.first_hit_with.ensures.cost)

pub first_hit_with-requires-clause-rules : goal.first_hit_with-requires-clause-rules
first_hit_with-requires-clause-rules g c = c.new-placed.ensures.rules ∙ sym c.requires.rules

pub first_hit_with-requires-clause-may : goal.first_hit_with-requires-clause-may
first_hit_with-requires-clause-may g c =
    let self = c.args.self.now in
    let view = snapshot_in self.stores.now self.period in
    let region = self.test.now.region in
    let block = c.args.block.now in
    let placed = c.new-placed.ensures in
    let log = c.new-placed.result.log in
    let low : to_z w64 (of_z w64 self.from) ≡ self.from = omega (arith, ints) in
    let high : to_z w64 (of_z w64 self.to) ≡ self.to = omega (arith, ints) in
    let found = touching_rule-found self.stores.now self.period self.from self.to _ _ low high region block log.rules.now
    (log_of log) c.new-placed.result.start placed.rules placed.log placed.start in
    λ read needed. c.requires.may read (block-within view block c.requires.block (places_of log) placed.places _
    (period_rule self.stores.now self.period self.from self.to region)
    (λ rule is. block_rule-within self.stores.now c.frame.ensures.valid self.period self.known self.from self.to region block
    c.requires.block rule (found rule is)) read needed)

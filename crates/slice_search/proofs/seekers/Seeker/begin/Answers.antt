use Rattle.std.proofs.Common.{◌≡◌, ap, sym, refl, ◌∙◌, arith}
use Rattle.std.proofs.lemmas.Int.{ints}
use Rattle.std.proofs.lemmas.Option.{get_or_from_slice_get}
use Rattle.rule_store.specs.Log.{log_of}
use Rattle.snapshots.specs.Parts.{rules_in, snapshot_in}
use Rattle.object_track.proofs.BlockLemmas.{block-known}
use Rattle.log_cursor.specs.Descent.{hit_of}
use Rattle.slice_search.specs.Sightings.{seen_at}
use Rattle.std.specs.Option.{option_map}
use Rattle.log_cursor.proofs.StopLemmas.{word}
use Rattle.slice_search.specs.Needs.{period_rule}
use Rattle.slice_search.proofs.HitLemmas.{first_in-found, first_stop-found, log_reads-found, sighting_in-is, touching_rule-found}
use Rattle.slice_search.proofs.NeedsLemmas.{block_rule-within, symbols-within}
use Rattle.rule_store.specs.Needs.{places_of}
use Rattle.slice_search.proofs.seekers.Seeker.begin.Goals as goal

pub object_at-requires : goal.object_at-requires
object_at-requires g c =
    let sought = c.args.sought.now in
    block-known sought.stores.now c.frame.ensures.valid sought.period sought.known c.args.block.now c.requires.block

pub begin-requires-clause-first : goal.begin-requires-clause-first
begin-requires-clause-first g c =
    let sought = c.args.sought.now in
    let placed = c.new.ensures in
    let kept : word sought.from ≡ sought.from = omega (arith, ints) in
    rw kept (c.requires.first ∙ first_in-found sought.stores.now sought.period sought.from c.args.block.now
    (log_of c.new.result.log) c.new.result.start placed.log placed.start)

pub returns-clause-seen : goal.returns-clause-seen
returns-clause-seen g c =
    let sought = c.args.sought.now in
    let parts = sought.stores.now in
    let region = sought.test.now.region in
    let placed = c.new.ensures in
    let its = get_or_from_slice_get parts.objects c.args.block.now.index c.object_at.result 0 c.object_at.ensures.value in
    let found = first_stop-found parts sought.period sought.from sought.from sought.from sought.from refl refl region
    c.args.block.now c.new.result.log.rules.now (log_of c.new.result.log) c.new.result.start
    placed.rules placed.log placed.start in
    let kept : word sought.from ≡ sought.from = omega (arith, ints) in
    let hit = rw (placed.rules, kept) at c.begin.ensures.hit in
    let other = rw placed.rules at found in
    ap (λ object. option_map (seen_at object) (hit_of (rules_in parts) sought.from region c.begin.result)) (sym its)
    ∙ sighting_in-is parts sought.period sought.from sought.from region c.args.block.now _ (hit ∙ other)

pub returns-clause-cost : goal.returns-clause-cost
returns-clause-cost g c =
    let sought = c.args.sought.now in
    let parts = sought.stores.now in
    let placed = c.new.ensures in
    let most = log_reads-found parts sought.period sought.from sought.from sought.from sought.from refl refl
    sought.test.now.region c.args.block.now c.new.result.log.rules.now (log_of c.new.result.log)
    c.new.result.start placed.rules placed.log placed.start in
    let kept : word sought.from ≡ sought.from = omega (arith, ints) in
    let cost = rw (placed.rules, kept) at c.begin.ensures.cost in
    let least = rw placed.rules at most in
    omega (arith, least, cost)

pub begin-requires-clause-may : goal.begin-requires-clause-may
begin-requires-clause-may g c =
    let sought = c.args.sought.now in
    let view = snapshot_in sought.stores.now sought.period in
    λ read needed. c.requires.may read (symbols-within view c.args.block.now c.requires.block (places_of c.new.result.log)
    c.new.ensures.places (period_rule sought.stores.now sought.period sought.from sought.from sought.test.now.region) read needed)

pub returns-clause-opens : goal.returns-clause-opens
returns-clause-opens g c =
    let sought = c.args.sought.now in
    let parts = sought.stores.now in
    let region = sought.test.now.region in
    let placed = c.new.ensures in
    let kept : word sought.from ≡ sought.from = omega (arith, ints) in
    let opens = rw (placed.rules, kept) at c.begin.ensures.opens in
    let found = rw placed.rules at (touching_rule-found parts sought.period sought.from sought.from sought.from sought.from
    refl refl region c.args.block.now c.new.result.log.rules.now (log_of c.new.result.log) c.new.result.start
    placed.rules placed.log placed.start) in
    λ rule is. block_rule-within parts c.frame.ensures.valid sought.period sought.known sought.from sought.from region c.args.block.now
    c.requires.block rule (found rule (opens rule is))

use Rattle.std.proofs.Common.{◌≡◌, ◌<◌, ◌+◌, ◌++◌, ◌∷◌, [], get_or, length, take, ap, sym, ◌∙◌, arith}
use Rattle.std.specs.List.{cons_option, filter_map, sum_by}
use Rattle.std.proofs.lemmas.List.{length-map, take_more}
use Rattle.std.proofs.lemmas.List.Elements.{All-append, All-cons, All-nil, filter_map-append}
use Rattle.std.proofs.lemmas.List.Sums.{sum_by_more, sum_by_push}
use Rattle.log_cursor.specs.Descent.{first_reads}
use Rattle.snapshots.specs.Parts.{rules_in}
use Rattle.snapshots.specs.declared.anchored.Anchored.{Anchored}
use Rattle.slice_search.specs.Needs.{period_rule}
use Rattle.slice_search.specs.Seekers.{first_in, first_reads_in, reads_in, seen_by, IsSeeker, OpensWithin}
use Rattle.slice_search.specs.Sightings.{sighting_in}
use Rattle.slice_search.specs.Sought.{log_reads}
use Rattle.slice_search.proofs.HitLemmas.{first_in-at, no_block}
use Rattle.slice_search.proofs.sightings.begin_each.Goals as goal

pub bounds-firsts-i : goal.bounds-firsts-i
bounds-firsts-i g c =
    let sought = c.args.sought.now in
    let many = ap length c.requires.firsts ∙ length-map c.args.group.now (first_in sought.stores.now sought.period sought.from) in
    omega (arith, many, c.loop-i-test.true)

pub begin-requires-clause-block : goal.begin-requires-clause-block
begin-requires-clause-block g c = c.requires.blocks c.loop-i.i no_block (omega (arith, c.loop-i-test.true))

pub begin-requires-clause-first : goal.begin-requires-clause-first
begin-requires-clause-first g c =
    let sought = c.args.sought.now in
    first_in-at sought.stores.now sought.period sought.from c.args.group.now c.args.firsts.now c.loop-i.i c.requires.firsts
    (omega (arith, c.loop-i-test.true))

pub loop-i-preserved : goal.loop-i-preserved
loop-i-preserved g c =
    let sought = c.args.sought.now in
    let parts = sought.stores.now in
    let region = sought.test.now.region in
    let are = IsSeeker (rules_in parts) sought.from in
    let opens = OpensWithin (rules_in parts) sought.from region
    (period_rule parts sought.period sought.from sought.from region) in
    let seen = seen_by (rules_in parts) sought.from region in
    let own = reads_in (rules_in parts) sought.from region in
    let sighting = sighting_in parts sought.period sought.from sought.from region in
    let log = log_reads parts sought.period sought.from sought.from region in
    let group = c.args.group.now in
    let i = c.loop-i.i in
    let seekers = c.loop-i.seekers.items in
    let seeker = c.begin.result in
    let first = take i group in
    let block : Anchored = get_or group i no_block in
    let within : i < length group = omega (arith, c.loop-i-test.true) in
    let more : take (i + 1) group ≡ first ++ block ∷ [] = take_more group i no_block within in
    let its = c.loop-i.invariant in
    let known = first_in-at parts sought.period sought.from group c.args.firsts.now i c.requires.firsts within in
    record {
      count = omega (arith, c.push.ensures.len, its.count, ap length c.push.ensures.items);
      sound = rw c.push.ensures.items
          (All-append are seekers (seeker ∷ []) its.sound (All-cons are seeker [] c.begin.ensures.sound (All-nil are)));
      opens = rw c.push.ensures.items
          (All-append opens seekers (seeker ∷ []) its.opens (All-cons opens seeker [] c.begin.ensures.opens (All-nil opens)));
      seen = ap (filter_map seen) c.push.ensures.items ∙ filter_map-append seen seekers (seeker ∷ [])
          ∙ ap (λ xs. xs ++ filter_map seen (seeker ∷ [])) its.seen
          ∙ ap (λ s. filter_map sighting first ++ cons_option s []) c.begin.ensures.seen
          ∙ sym (filter_map-append sighting first (block ∷ [])) ∙ ap (filter_map sighting) (sym more);
      reads = omega (
        arith,
        its.reads,
        ap first_reads known,
        c.begin.ensures.cost,
        ap (sum_by own) c.push.ensures.items,
        sum_by_push own seekers seeker,
        sum_by_more (first_reads_in parts sought.period sought.from) group i no_block within,
        sum_by_more log group i no_block within,
      );
    }

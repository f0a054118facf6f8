use Rattle.std.proofs.Common.{◌≡◌, ◌++◌, ap, ◌∙◌, arith}
use Rattle.std.specs.List.{filter_map}
use Rattle.std.proofs.lemmas.Int.{ints}
use Rattle.snapshots.specs.Parts.{rules_in}
use Rattle.log_cursor.proofs.StopLemmas.{word}
use Rattle.slice_search.specs.Seekers.{seen_by}
use Rattle.slice_search.proofs.SeekerLemmas.{refill-same, turned-length, turned-sightings}
use Rattle.slice_search.proofs.sightings.push_seen.Goals as goal

pub returns-clause-found : goal.returns-clause-found
returns-clause-found g c =
    let sought = c.args.sought.now in
    let kept : word sought.from ≡ sought.from = omega (arith, ints) in
    let rules = rules_in sought.stores.now in
    let region = sought.test.now.region in
    let before = c.args.seekers.now.items in
    let now = c.search_all.new.seekers in
    let turned = rw (c.rules-rules.ensures.value, kept, c.as_mut_slice.ensures.value) at c.search_all.ensures.turned in
    let back = refill-same before now (turned-length rules sought.from region before now turned) in
    let same = ap (filter_map (seen_by rules sought.from region)) (c.as_slice.ensures.value ∙ back)
    ∙ turned-sightings rules sought.from region before now turned in
    c.in_ok-push_all.ensures rules sought.from region ∙ ap (λ s. c.args.found.now.items ++ s) same

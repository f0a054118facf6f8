use Rattle.std.proofs.Common.{◌≡◌, ◌∙◌, sym, rules}
use Rattle.std.specs.Prelude.{slice_index}
use Rattle.std.proofs.lemmas.Option.{get_or_from_slice_get}
use Rattle.interval_search.proofs.first_hits.FirstHits.look_into.Goals as goal

pub returns-clause-found : goal.returns-clause-found
returns-clause-found g c =
    let objects = c.args.sought.now.stores.now.objects in
    let place = c.args.block.now.index in
    let first = sym c.first_stop.ensures.value ∙ c.in-Some.is in
    let own : slice_index objects place ≡ c.object_at.result =
    get_or_from_slice_get objects place c.object_at.result 0 c.object_at.ensures.value in
    rw (first, own) (search rules)

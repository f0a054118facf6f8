use Rattle.std.proofs.Common.{rules}
use Rattle.std.proofs.lemmas.List.Sorted.{IsNonDecreasingBy-from_sort_by_key}
use Rattle.track_types.specs.declared.hit.Hit.{Hit}
use Rattle.interval_search.proofs.first_hits.FirstHits.in_order.Goals as goal

pub returns-clause-order : goal.returns-clause-order
returns-clause-order c =
    IsNonDecreasingBy-from_sort_by_key (λ (hit : Hit). hit.object) _ c.sort_unstable_by_key.ensures.sorted
    (λ a r q k. search rules)

use Rattle.std.proofs.lemmas.List.Sorted.{Contains-permutation, IsPermutation-refl, IsNonDecreasingBy-from_sort, non_decreasing_from_is_sorted}
use Rattle.repair_grammar.proofs.pairs.put_in_order.Goals as goal

pub returns-then-not-is_sorted-clause-order : goal.returns-then-not-is_sorted-clause-order
returns-then-not-is_sorted-clause-order c = IsNonDecreasingBy-from_sort
    (λ place. place) _ c.sort_unstable.ensures.sorted

pub returns-then-not-is_sorted-clause-all : goal.returns-then-not-is_sorted-clause-all
returns-then-not-is_sorted-clause-all c = λ place inside.
    Contains-permutation _ _ place c.sort_unstable.ensures.permutation inside

pub returns-else-not-is_sorted-clause-order : goal.returns-else-not-is_sorted-clause-order
returns-else-not-is_sorted-clause-order c = rw (c.if-not-is_sorted.false, c.as_slice.ensures.value) at
    (non_decreasing_from_is_sorted c.as_slice.result.now c.is_sorted.result c.is_sorted.ensures.cases)

pub returns-then-not-is_sorted-clause-same : goal.returns-then-not-is_sorted-clause-same
returns-then-not-is_sorted-clause-same c = c.sort_unstable.ensures.permutation

pub returns-else-not-is_sorted-clause-same : goal.returns-else-not-is_sorted-clause-same
returns-else-not-is_sorted-clause-same c = IsPermutation-refl c.args.places.now.items

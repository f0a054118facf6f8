use Rattle.std.proofs.Common.{eqb, subst, sym, ◌∙◌, ap}
use Rattle.std.specs.Prelude.{◌==◌}
use Rattle.std.specs.List.{list_any}
use Rattle.std.specs.List.Sorted.{IsStrictlySortedBy}
use Rattle.std.specs.Ordering.{nat_cmp}
use Rattle.std.proofs.lemmas.List.Filters.{dedup_is}
use Rattle.std.proofs.lemmas.List.Sorted.{list_any-IsPermutation}
use Rattle.std.proofs.lemmas.Map.Keys.{IsStrictlyIncreasing-dedup, sorted_from_strictly_increasing}
use Rattle.live_tail.proofs.ObjectLemmas.{any-dedup}
use Rattle.live_tail.proofs.objects.objects_in.Goals as goal

pub returns-clause-rising : goal.returns-clause-rising
returns-clause-rising c =
    let kept = dedup_is eqb c.sort_unstable.new.self.items c.dedup.new.self.items c.dedup.ensures.filtered in
    subst (IsStrictlySortedBy nat_cmp) (sym kept)
    (sorted_from_strictly_increasing _ (IsStrictlyIncreasing-dedup c.sort_unstable.new.self.items c.sort_unstable.ensures.sorted))

pub returns-clause-members : goal.returns-clause-members
returns-clause-members c = λ object.
    let kept = dedup_is eqb c.sort_unstable.new.self.items c.dedup.new.self.items c.dedup.ensures.filtered in
    ap (list_any (λ o. object == o)) kept ∙ any-dedup object c.sort_unstable.new.self.items
    ∙ sym (list_any-IsPermutation (λ o. object == o) c.in_ok-objects.objects.items c.sort_unstable.new.self.items c.sort_unstable.ensures.permutation)
    ∙ c.in_ok-objects.ensures object

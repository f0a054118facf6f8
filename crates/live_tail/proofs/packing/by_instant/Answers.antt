use Rattle.std.proofs.Common.{◌≡◌, List, subst, rules}
use Rattle.std.specs.List.Sorted.{IsPermutation, IsStableBy}
use Rattle.std.proofs.lemmas.List.Sorted.{answers_always}
use Rattle.live_tail.specs.declared.small_row.SmallRow.{SmallRow}
use Rattle.live_tail.proofs.SmallLemmas.{instant_less, sorted-from}
use Rattle.live_tail.proofs.packing.by_instant.Goals as goal

pub returns : goal.returns
returns c =
    let made : c.extend_from_slice.new.self.items ≡ c.args.rows.now = search rules in
    let sorted : List SmallRow = c.sort_by_key.new.self.items in
    sorted-from c.args.origin c.args.rows.now sorted
    (subst (λ rows. IsPermutation rows sorted) made c.in_ok-sort_by_key.ensures.permutation)
    (c.in_ok-sort_by_key.ensures.sorted (λ (small : SmallRow). small.instant) (answers_always _ _ _ (λ f a r g h. search rules)))
    (subst (λ rows. IsStableBy instant_less rows sorted) made
    (c.in_ok-sort_by_key.ensures.stable (λ (small : SmallRow). small.instant) (answers_always _ _ _ (λ f a r g h. search rules))))

use Rattle.std.proofs.Common.{length, rules}
use Rattle.std.proofs.lemmas.List.Sorted.{IsNonDecreasingBy-from_sort_by_key, answers_always}
use Rattle.outline_parts.specs.Told.{told_placed}
use Rattle.outline_parts.proofs.ByObjectLemmas.{index_in, objects-low, placed_by_object-sorted}
use Rattle.outline_parts.proofs.outlining.blocks_by_object.Goals as goal

pub returns : goal.returns
returns c =
    let parts = c.args.parts.now in
    let sorted = c.sort_by_key.new.self.items in
    let made = c.in_ok-placed.ensures in
    let up = IsNonDecreasingBy-from_sort_by_key index_in _ c.in_ok-sort_by_key.ensures.sorted (λ a r q k. search rules) in
    let stable = c.in_ok-sort_by_key.ensures.stable index_in (answers_always _ _ _ (λ f a r g h. search rules)) in
    let moved = c.in_ok-sort_by_key.ensures.permutation in
    placed_by_object-sorted (length parts.objects) (told_placed parts) sorted
    (objects-low parts c.requires) (rw made at moved) up (rw made at stable)

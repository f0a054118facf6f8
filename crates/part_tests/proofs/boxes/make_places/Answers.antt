use Rattle.std.proofs.Common.{◌<◌, All, subst}
use Rattle.part_tests.proofs.boxes.make_places.Goals as goal

pub tree_of-requires-clause-inside : goal.tree_of-requires-clause-inside
tree_of-requires-clause-inside c =
    rw c.as_slice.ensures.value (subst (λ n. All (λ code. code < n) c.in_ok-codes.codes.items) c.requires.limit c.in_ok-codes.ensures.inside)

use Rattle.std.proofs.lemmas.Grind.{elements}
use Rattle.std.proofs.Common.{arith}
use Rattle.std.proofs.lemmas.Int.{to_z-of_z}
use Rattle.encounter.proofs.nearness.box_distance.Goals as goal

pub returns : goal.returns
returns c =
    rw (c.from.ensures, c.from-2.ensures, c.from-3.ensures, c.from-4.ensures, c.gap-x.ensures.value, c.gap-y.ensures.value)
    (grind (arith, to_z-of_z))

pub overflow_add-result : goal.overflow_add-result
overflow_add-result c = grind (arith, elements)

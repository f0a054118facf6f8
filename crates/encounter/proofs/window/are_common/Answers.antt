use Rattle.std.proofs.Common.{arith}
use Rattle.std.proofs.lemmas.Int.{clamps, ints, to_z-of_z}
use Rattle.encounter.proofs.window.are_common.Goals as goal

pub returns-else-later-to : goal.returns-else-later-to
returns-else-later-to c = grind (arith, ints, clamps, to_z-of_z)

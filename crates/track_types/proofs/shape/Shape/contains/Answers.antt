use Rattle.std.proofs.Common.{arith}
use Rattle.std.proofs.lemmas.Int.{to_z-of_z}
use Rattle.track_types.proofs.shape.Shape.contains.Goals as goal

pub returns-then-is_between : goal.returns-then-is_between
returns-then-is_between c = grind (arith, to_z-of_z)

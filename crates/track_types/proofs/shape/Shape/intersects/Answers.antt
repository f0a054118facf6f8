use Rattle.std.proofs.Common.{arith}
use Rattle.std.proofs.lemmas.Int.{to_z-of_z}
use Rattle.track_types.proofs.shape.Shape.intersects.Goals as goal

pub returns-then-overlaps : goal.returns-then-overlaps
returns-then-overlaps c = grind (arith, to_z-of_z)

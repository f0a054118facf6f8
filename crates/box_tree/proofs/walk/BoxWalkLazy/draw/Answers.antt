use Rattle.std.proofs.Common.{arith}
use Rattle.std.proofs.lemmas.Grind.{common_steps}
use Rattle.box_tree.proofs.walk.BoxWalkLazy.draw.Goals as goal

pub loop-place-smaller : goal.loop-place-smaller
loop-place-smaller g c = grind (arith, common_steps)

pub loop-place-preserved : goal.loop-place-preserved
loop-place-preserved g c = grind (arith, common_steps)

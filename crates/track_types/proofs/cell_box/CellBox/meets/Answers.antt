use Rattle.std.proofs.Common.{arith}
use Rattle.std.proofs.lemmas.Int.{to_z-of_z}
use Rattle.track_types.proofs.cell_box.CellBox.meets.Goals as goal

pub returns-then-overlaps : goal.returns-then-overlaps
returns-then-overlaps c = grind (arith, to_z-of_z)

pub returns-else-overlaps : goal.returns-else-overlaps
returns-else-overlaps c = grind (arith, to_z-of_z)

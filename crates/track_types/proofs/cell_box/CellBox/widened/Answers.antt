use Rattle.std.proofs.Common.{arith}
use Rattle.std.proofs.lemmas.Int.{ints}
use Rattle.track_types.proofs.BoxLemmas.{same_box}
use Rattle.track_types.proofs.cell_box.CellBox.widened.Goals as goal

pub returns : goal.returns
returns c =
    let near = c.requires.area in
    let narrow = c.requires.width in
    same_box _ _ (omega (arith, ints, near.x1.low, near.x1.high, narrow)) (omega (arith, ints, near.y1.low, near.y1.high, narrow))
    (omega (arith, ints, near.x2.low, near.x2.high, narrow)) (omega (arith, ints, near.y2.low, near.y2.high, narrow))

use Rattle.std.proofs.Common.{arith}
use Rattle.std.proofs.lemmas.Int.{ints}
use Rattle.track_types.proofs.BoxLemmas.{same_box}
use Rattle.track_types.proofs.cell_box.CellBox.moved.Goals as goal

pub returns : goal.returns
returns c =
    let far = c.requires in
    same_box _ _ (omega (arith, ints, far.x1.low, far.x1.high)) (omega (arith, ints, far.y1.low, far.y1.high))
    (omega (arith, ints, far.x2.low, far.x2.high)) (omega (arith, ints, far.y2.low, far.y2.high))

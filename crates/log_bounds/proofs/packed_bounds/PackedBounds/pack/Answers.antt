use Rattle.std.proofs.Common.{arith}
use Rattle.std.proofs.lemmas.Int.{ints}
use Rattle.track_types.proofs.BoxLemmas.{same_box}
use Rattle.rule_store.proofs.CellLemmas.{same_cell}
use Rattle.log_bounds.proofs.BoundsLemmas.{same_bounds}
use Rattle.log_bounds.proofs.packed_bounds.PackedBounds.pack.Goals as goal

pub returns : goal.returns
returns c =
    let area = c.args.bounds.area in
    let is = c.requires in
    same_bounds _ c.args.bounds.from _ c.args.bounds.speed _ area
    (same_cell _ _ c.args.bounds.from.x c.args.bounds.from.y
    (omega (arith, ints, is.column.low, is.column.high))
    (omega (arith, ints, is.line.low, is.line.high)))
    (omega (arith, is.speed))
    (same_box _ area
    (omega (arith, ints, is.x1.low, is.x1.high))
    (omega (arith, ints, is.y1.low, is.y1.high))
    (omega (arith, ints, is.x1.low, is.x1.high, is.x2.low, is.x2.high, area.wide))
    (omega (arith, ints, is.y1.low, is.y1.high, is.y2.low, is.y2.high, area.high)))

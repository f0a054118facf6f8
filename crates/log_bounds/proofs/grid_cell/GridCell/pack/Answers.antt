use Rattle.std.proofs.Common.{arith}
use Rattle.std.proofs.lemmas.Int.{ints}
use Rattle.rule_store.proofs.CellLemmas.{same_cell}
use Rattle.log_bounds.proofs.grid_cell.GridCell.pack.Goals as goal

pub returns : goal.returns
returns c =
    let is = c.requires in
    same_cell _ _ c.args.cell.x c.args.cell.y
    (omega (arith, ints, is.column.low, is.column.high))
    (omega (arith, ints, is.line.low, is.line.high))

use Rattle.std.proofs.Common.{arith, pos, ◌∙◌}
use Rattle.std.proofs.lemmas.Int.{ints}
use Rattle.rule_store.proofs.CellLemmas.{same_cell}
use Rattle.log_bounds.proofs.grid_cell.GridCell.unpack.Goals as goal

pub returns-clause-value : goal.returns-clause-value
returns-clause-value c =
    let it = c.self.inside in
    same_cell _ _ (pos it.column) (pos it.line) (omega (arith, ints, c.from.ensures)) (omega (arith, ints, c.from-2.ensures))
    ∙ c.self.view_is

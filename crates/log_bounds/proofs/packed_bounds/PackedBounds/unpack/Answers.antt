use Rattle.std.proofs.Common.{arith, pos, ◌∙◌}
use Rattle.std.proofs.lemmas.Int.{ints}
use Rattle.track_types.proofs.BoxLemmas.{same_box}
use Rattle.rule_store.specs.Cells.{cell_with}
use Rattle.rule_store.proofs.CellLemmas.{same_cell}
use Rattle.log_bounds.specs.Packed.{reaching_box}
use Rattle.log_bounds.proofs.BoundsLemmas.{same_bounds}
use Rattle.log_bounds.proofs.packed_bounds.PackedBounds.unpack.Goals as goal

pub returns-clause-value : goal.returns-clause-value
returns-clause-value c =
    let it = c.self.inside in
    let is = c.self.invariant in
    same_bounds _ (cell_with (pos it.column) (pos it.line)) c.from-3.result it.speed _
    (reaching_box it.x it.y it.columns it.lines)
    (same_cell _ _ (pos it.column) (pos it.line) (omega (arith, ints, c.from.ensures)) (omega (arith, ints, c.from-2.ensures)))
    c.from-3.ensures
    (same_box _ (reaching_box it.x it.y it.columns it.lines)
    (omega (arith, ints, c.from-x.ensures, is.right))
    (omega (arith, ints, c.from-y.ensures, is.above))
    (omega (arith, ints, c.from-x.ensures, c.from-4.ensures, is.right))
    (omega (arith, ints, c.from-y.ensures, c.from-5.ensures, is.above)))
    ∙ c.self.view_is

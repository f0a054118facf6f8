use Rattle.std.proofs.Common.{ap}
use Rattle.k2_tree.specs.SquareWalk.{SquareWalkView}
use Rattle.k2_tree.proofs.WalkLemmas.{leaf_is}
use Rattle.k2_tree.proofs.square_walk.SquareWalk.leaf.Goals as goal

pub returns-clause-value : goal.returns-clause-value
returns-clause-value g c =
    let facts = c.leaf_number.ensures in
    let same = ap (λ (w : SquareWalkView). w.tree) c.self.view_is in
    rw (← same, c.corner.ensures) (leaf_is facts.tree (rw (← same) at c.requires.of) c.requires.leaf facts.value)

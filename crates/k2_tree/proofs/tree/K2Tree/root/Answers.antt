use Rattle.std.proofs.Common.{arith}
use Rattle.k2_tree.proofs.CellLemmas.{no_cells, IsTree-stored}
use Rattle.k2_tree.proofs.StoredLemmas.{whole_stands}
use Rattle.k2_tree.proofs.tree.K2Tree.root.Goals as goal

pub returns-then-len-eq0-clause-none : goal.returns-then-len-eq0-clause-none
returns-then-len-eq0-clause-none c =
    let tree = c.self.inside in
    rw (← c.self.view_is) (no_cells tree.height tree.wide tree.base tree.bits (omega (arith, c.len.ensures)))

pub returns-clause-found : goal.returns-clause-found
returns-clause-found c =
    let facts = c.whole.ensures in
    rw (← c.self.view_is)
    (whole_stands c.self.invariant (omega (arith, c.len.ensures)) facts.base facts.node facts.number)

pub returns-then-len-eq0-clause-tree : goal.returns-then-len-eq0-clause-tree
returns-then-len-eq0-clause-tree c = rw (← c.self.view_is) (IsTree-stored c.self.invariant)

pub returns-clause-tree : goal.returns-clause-tree
returns-clause-tree c = rw (← c.self.view_is) (IsTree-stored c.self.invariant)

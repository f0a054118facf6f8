use Rattle.std.proofs.Common.{◌∙◌}
use Rattle.k2_tree.proofs.CellLemmas.{given_back}
use Rattle.k2_tree.proofs.tree.K2Tree.bits.Goals as goal

pub returns : goal.returns
returns c = rw (← c.self.view_is) (c.into_list.ensures ∙ given_back c.self.invariant)

use Rattle.std.proofs.Common.{◌≡◌, ◌-◌, ◌∷◌, subst}
use Rattle.box_tree.specs.Tree.{TreeView, levels_below}
use Rattle.box_tree.proofs.tree.BoxTree.width.Goals as goal

pub returns-clause-value : goal.returns-clause-value
returns-clause-value c =
    subst (λ (t : TreeView). levels_below t.narrow c.args.below
    ≡ c.width_of.result ∷ levels_below t.narrow (c.args.below - 1)) c.self.view_is c.width_of.ensures.value

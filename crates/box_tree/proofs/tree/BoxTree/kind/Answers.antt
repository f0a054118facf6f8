use Rattle.std.proofs.Common.{◌≡◌, slice_get, sym, ap, ◌∙◌, subst}
use Rattle.std.proofs.lemmas.Option.{same_Some}
use Rattle.box_tree.specs.Held.{IsKindFor}
use Rattle.box_tree.specs.NodeKinds.{link_kind}
use Rattle.box_tree.specs.Tree.{levels_of, node_prefix, TreeView}
use Rattle.box_tree.proofs.tree.BoxTree.kind.Goals as goal

pub returns-clause-kind : goal.returns-clause-kind
returns-clause-kind g c =
    let tree = c.args.self.now in
    let held = c.requires.held in
    let same : held.link ≡ c.at.result =
    same_Some held.link c.at.result
    (sym held.link_is ∙ ap (λ (t : TreeView). slice_get t.nodes.links c.args.node.now.node) (sym c.self.view_is)
    ∙ c.at.ensures.value) in
    subst (IsKindFor tree.places tree.nodes (levels_of tree.narrow c.args.node.now) (node_prefix c.args.node.now))
    (ap link_kind same ∙ sym c.kind_of.ensures) held.kind

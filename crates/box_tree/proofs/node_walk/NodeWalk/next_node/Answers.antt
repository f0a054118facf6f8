use Rattle.std.proofs.Common.{ap, subst}
use Rattle.std.specs.Prelude.{IfSome}
use Rattle.box_tree.specs.Tree.{IsNodeOf, TreeView}
use Rattle.box_tree.specs.Walk.{NodeWalkView}
use Rattle.box_tree.proofs.WalkLemmas.{popped, popped-node}
use Rattle.box_tree.proofs.node_walk.NodeWalk.next_node.Goals as goal

pub invariant_of-self : goal.invariant_of-self
invariant_of-self c =
    let w = c.self.inside in
    popped w.tree.now w.low w.high w.stack.items c.pop.new.self.items c.pop.result c.pop.ensures.items c.self.invariant

pub returns-clause-of : goal.returns-clause-of
returns-clause-of c =
    let w = c.self.inside in
    subst (λ (t : TreeView). IfSome c.pop.result (λ ref. IsNodeOf t ref)) (ap (λ (v : NodeWalkView). v.tree) c.self.view_is)
    (popped-node w.tree.now w.low w.high w.stack.items c.pop.new.self.items c.pop.result c.pop.ensures.items
    c.self.invariant)

use Rattle.std.proofs.Common.{◌++◌, sym, ap, ◌∙◌, subst, append-nil}
use Rattle.k2_tree.specs.SquareWalk.{IsSquareWalk, found_nodes, open_nodes}
use Rattle.k2_tree.proofs.WalkLemmas.{begins_whole, open_nodes-nil, whole_nodes}
use Rattle.k2_tree.proofs.square_walk.SquareWalk.new.Goals as goal

pub invariant_of-result : goal.invariant_of-result
invariant_of-result c =
    let facts = c.root.ensures in
    subst (IsSquareWalk c.args.tree.now c.root.result) (sym c.new.ensures)
    (begins_whole c.root.result facts.tree facts.found facts.node)

pub returns-clause-pending : goal.returns-clause-pending
returns-clause-pending c =
    let facts = c.root.ensures in
    ap (λ stack. found_nodes c.root.result ++ open_nodes stack) c.new.ensures
    ∙ ap (λ nodes. found_nodes c.root.result ++ nodes) open_nodes-nil ∙ append-nil (found_nodes c.root.result)
    ∙ whole_nodes c.root.result facts.tree facts.none facts.found facts.node

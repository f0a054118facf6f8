use Rattle.std.proofs.Common.{arith, ◌≤◌}
use Rattle.std.proofs.Common.{◌≡◌, ◌+◌, ◌++◌, true, length, sym, ap, ◌∙◌, subst}
use Rattle.std.specs.Option.{is_none}
use Rattle.k2_tree.specs.TreeSquares.{level_of, node_of}
use Rattle.k2_tree.specs.SquareWalk.{IsSquareWalk, SquareWalkView, found_nodes, open_nodes}
use Rattle.k2_tree.specs.Pruning.{child_nodes}
use Rattle.k2_tree.proofs.WalkLemmas.{opened, opened_nodes}
use Rattle.k2_tree.proofs.square_walk.SquareWalk.open.Goals as goal

pub invariant_of-self : goal.invariant_of-self
invariant_of-self g c =
    let walk = c.self.inside in
    let same = ap (λ (w : SquareWalkView). w.tree) c.self.view_is in
    let begun : is_none walk.whole ≡ true = ap (λ (w : SquareWalkView). w.begun) c.self.view_is ∙ c.requires.begun in
    let depth : level_of c.args.square + length walk.stack.items ≤ walk.tree.now.height =
    omega (
      arith,
      c.requires.depth,
      ap (λ (w : SquareWalkView). w.depth) c.self.view_is,
      ap (λ (w : SquareWalkView). w.tree.height) c.self.view_is,
    ) in
    subst (IsSquareWalk walk.tree.now walk.whole) {y = c.push.new.self.items} (sym c.push.ensures.items)
    (opened walk.whole walk.stack.items c.pending_children.result c.self.invariant begun (rw (← same) at c.requires.of)
    depth
    c.pending_children.ensures.square c.pending_children.ensures.stands)

pub returns-clause-pending : goal.returns-clause-pending
returns-clause-pending g c =
    let walk = c.self.inside in
    let begun : is_none walk.whole ≡ true = ap (λ (w : SquareWalkView). w.begun) c.self.view_is ∙ c.requires.begun in
    ap (λ stack. found_nodes walk.whole ++ open_nodes stack) c.push.ensures.items
    ∙ opened_nodes walk.whole walk.stack.items c.pending_children.result begun
    ∙ ap (λ nodes. nodes ++ (found_nodes walk.whole ++ open_nodes walk.stack.items)) c.pending_children.ensures.nodes
    ∙ ap (λ (w : SquareWalkView). child_nodes w.tree (node_of c.args.square) ++ w.pending) c.self.view_is

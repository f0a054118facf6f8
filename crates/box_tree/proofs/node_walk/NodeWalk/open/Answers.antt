use Rattle.std.proofs.Common.{ℕ, ◌+◌, ◌≤◌, List, length, refl, sym, ap, arith, subst}
use Rattle.box_tree.specs.Levels.{digits}
use Rattle.box_tree.specs.Tree.{IsNodeOf, TreeView, levels_of, node_square, node_prefix, slots}
use Rattle.box_tree.specs.Walk.{NodeWalkView, OpensSquare, node_walk_of}
use Rattle.box_tree.proofs.TreeLemmas.{child_limit-le}
use Rattle.box_tree.proofs.WalkLemmas.{branch-opened, branch-some, branch-walk, bucket-opened, bucket-parts}
use Rattle.box_tree.proofs.node_walk.NodeWalk.open.Goals as goal
use Rattle.box_tree.proofs.node_walk.NodeWalk.open.Given.{Over}
use Rattle.box_tree.proofs.node_walk.NodeWalk.open.Goals.{In-Branch}
use Rattle.box_tree.proofs.PlacesLemmas.{square_start-le}

pub invariant_of-self : goal.invariant_of-self
invariant_of-self g c =
    let tree : TreeView = c.self.inside.tree.now in
    let levels : List ℕ = levels_of tree.narrow c.args.taken in
    let prefix : ℕ = node_prefix c.args.taken in
    let is = (bucket-parts tree.places tree.nodes levels prefix c.in-Bucket.low c.in-Bucket.high
    c.in-Bucket.ensures.kind).0 in
    let most = square_start-le tree.places.codes (digits levels) (prefix + 1) in
    record {
      nodes = c.self.invariant.nodes;
      fits = c.self.invariant.fits;
      few = c.self.invariant.few;
      within = omega (arith, is.high_is, most);
      are = c.self.invariant.are;
      near = c.self.invariant.near;
    }

-- there is room for what comes in the node's place
room : (g : Over) (c : In-Branch g)
    → length c.self.inside.stack.items + slots
    (levels_of c.self.inside.tree.now.narrow c.args.taken) ≤ slots c.self.inside.tree.now.places.levels
room g c = subst (λ (w : NodeWalkView). w.depth + slots
    (levels_of w.tree.narrow c.args.taken) ≤ slots w.tree.places.levels) (sym c.self.view_is) c.requires.room

pub push_children-requires-clause-room : goal.push_children-requires-clause-room
push_children-requires-clause-room g c =
    let all = room g (goal.at.push_children-requires-clause-room g c).In-Branch in
    omega (arith, all, child_limit-le (levels_of c.self.inside.tree.now.narrow c.args.taken), c.self.invariant.few)

pub invariant_of-self-in-Branch : goal.invariant_of-self-in-Branch
invariant_of-self-in-Branch g c =
    let w = c.self.inside in
    let tree : TreeView = w.tree.now in
    branch-walk tree w.low w.high w.stack.items c.push_children.new.stack.items c.args.taken
    c.push_children.ensures.pushed
    c.self.invariant (room g (goal.at.invariant_of-self-in-Branch g c).In-Branch)
    (branch-some tree.places tree.nodes tree.narrow c.args.taken.below
    (node_prefix c.args.taken) c.in-Branch.end c.in-Branch.mask c.in-Branch.ensures.kind)

pub returns-in-Bucket-clause-opened : goal.returns-in-Bucket-clause-opened
returns-in-Bucket-clause-opened g c =
    let w = c.self.inside in
    let tree : TreeView = w.tree.now in
    let levels : List ℕ = levels_of tree.narrow c.args.taken in
    let prefix : ℕ = node_prefix c.args.taken in
    let is = bucket-parts tree.places tree.nodes levels prefix c.in-Bucket.low c.in-Bucket.high
    c.in-Bucket.ensures.kind in
    let new : NodeWalkView = node_walk_of tree w.stack.items c.in-Bucket.low c.in-Bucket.high in
    subst (λ (old : NodeWalkView). old.high ≤ old.low
    → OpensSquare old new (node_square old.tree.narrow c.args.taken)) c.self.view_is
    (λ done. bucket-opened
    (node_walk_of tree w.stack.items w.low w.high) new done refl levels prefix c.in-Bucket.low c.in-Bucket.high
    c.self.invariant.are.ascend is.0 is.1 refl refl refl) c.requires.done

pub returns-in-Branch-clause-opened : goal.returns-in-Branch-clause-opened
returns-in-Branch-clause-opened g c =
    let w = c.self.inside in
    let tree : TreeView = w.tree.now in
    let its : IsNodeOf tree c.args.taken =
    subst (λ (t : TreeView). IsNodeOf t c.args.taken)
    (sym (ap (λ (w : NodeWalkView). w.tree) c.self.view_is)) c.requires.of in
    let new : NodeWalkView = node_walk_of tree c.push_children.new.stack.items w.low w.high in
    subst (λ (old : NodeWalkView). old.high ≤ old.low
    → OpensSquare old new (node_square old.tree.narrow c.args.taken)) c.self.view_is
    (λ done. branch-opened tree w.low w.high w.stack.items c.push_children.new.stack.items c.args.taken
    c.push_children.ensures.pushed done its)
    c.requires.done

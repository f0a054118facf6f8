use Rattle.std.proofs.Common.{◌≡◌, ◌^◌, ◌<◌, ◌≤◌, length, arith, ap, lit<, refl, subst, sym}
use Rattle.std.proofs.Math.Nat.{pow-le-pow_right}
use Rattle.std.proofs.lemmas.List.{length-map}
use Rattle.track_types.specs.declared.limit.TheConstants.{MAX_HEIGHT}
use Rattle.k2_tree.specs.Morton.{interleaved}
use Rattle.box_tree.specs.Held.{Held}
use Rattle.box_tree.specs.Places.{square_with}
use Rattle.box_tree.specs.Tree.{IsNodeOf, TreeView, code_at, levels_below, node_square, box_tree_of, whole}
use Rattle.box_tree.specs.declared.node_ref.NodeRef.{NodeRef}
use Rattle.box_tree.proofs.tree.BoxTree.root.Goals as goal

-- the first column and the first row have the number 0
at_zero : code_at (0, 0) ≡ 0
unfolding interleaved
at_zero = refl

pub returns-clause-node : goal.returns-clause-node
returns-clause-node c =
    let t = c.self.inside in
    let is = c.self.invariant.1 in
    let tree : TreeView = box_tree_of t.base t.height t.narrow t.cells t.boxes t.areas t.links in
    let some : 0 < length tree.places.codes = omega (arith, length-map t.cells code_at) in
    let most : 2 ^ t.digits ≤ 2 ^ MAX_HEIGHT = pow-le-pow_right (lit< tt) is.few in
    subst (λ (tree : TreeView). IsNodeOf tree
    (record { node = 0; below = t.height; level = t.digits; column = 0; row = 0 }))
    c.self.view_is (record {
      level = is.digits_are;
      deep = is.few;
      right = omega (arith, most);
      upper = omega (arith, most);
      held = subst (λ prefix. Held tree.places tree.nodes tree.places.levels prefix 0) (sym at_zero) (is.held some);
    })

pub returns-clause-whole : goal.returns-clause-whole
returns-clause-whole c =
    let t = c.self.inside in
    let ref : NodeRef = record { node = 0; below = t.height; level = t.digits; column = 0; row = 0 } in
    subst (λ (tree : TreeView). node_square tree.narrow ref ≡ whole tree) c.self.view_is
    (ap (square_with (levels_below t.narrow t.height)) at_zero)

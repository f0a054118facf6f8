use Rattle.std.proofs.Common.{◌-◌, ◌≤◌, arith, subst, ap, reverse}
use Rattle.box_tree.specs.Held.{Held, IsBranch, IsKindFor}
use Rattle.box_tree.specs.Levels.{digits}
use Rattle.box_tree.specs.Tree.{TreeView, child_limit, levels_below, node_prefix}
use Rattle.box_tree.specs.declared.node_kind.NodeKind.TheVariants.{Branch}
use Rattle.k2_tree.proofs.PlaceLemmas.{child-fits}
use Rattle.box_tree.proofs.WalkLemmas.{branch-parts, branch-some, given-way, length-mask_digits}
use Rattle.box_tree.proofs.tree.BoxTree.push_children.Goals as goal
use Rattle.box_tree.proofs.tree.BoxTree.push_children.Goals.{After-width-width}

pub width-width-requires : goal.width-width-requires
width-width-requires c =
    let tree : TreeView = c.args.self.now in
    branch-some tree.places tree.nodes tree.narrow c.args.node.now.below
    (node_prefix c.args.node.now) c.args.end c.args.mask c.requires.kind

branch : (c : After-width-width) → IsBranch c.args.self.now.places.codes
    (digits (levels_below c.args.self.now.narrow (c.args.node.now.below - 1))) c.width-width.result
    (node_prefix c.args.node.now) c.args.end c.args.mask
    (Held c.args.self.now.places c.args.self.now.nodes
    (levels_below c.args.self.now.narrow (c.args.node.now.below - 1)))
branch c =
    let tree : TreeView = c.args.self.now in
    let node = c.args.node.now in
    branch-parts tree.places tree.nodes c.width-width.result (levels_below tree.narrow (node.below - 1))
    (node_prefix node) c.args.end c.args.mask
    (subst (λ ls. IsKindFor tree.places tree.nodes ls (node_prefix node)
    (Branch c.args.end c.args.mask)) c.width-width.ensures.value c.requires.kind)

-- the level is one of the node's
deep : (c : After-width-width) → c.width-width.result ≤ c.args.node.now.level
deep c = omega (arith, c.requires.of.level, ap digits c.width-width.ensures.value)

pub push_children-requires-clause-level : goal.push_children-requires-clause-level
push_children-requires-clause-level c = deep (goal.at.push_children-requires-clause-level c).After-width-width

pub push_children-requires-clause-right : goal.push_children-requires-clause-right
push_children-requires-clause-right c =
    let node = c.args.node.now in
    child-fits c.width-width.result node.level node.column
    (deep (goal.at.push_children-requires-clause-right c).After-width-width) c.requires.of.right

pub push_children-requires-clause-upper : goal.push_children-requires-clause-upper
push_children-requires-clause-upper c =
    let node = c.args.node.now in
    child-fits c.width-width.result node.level node.row
    (deep (goal.at.push_children-requires-clause-upper c).After-width-width) c.requires.of.upper

pub push_children-requires-clause-mask : goal.push_children-requires-clause-mask
push_children-requires-clause-mask c = (branch (goal.at.push_children-requires-clause-mask c).After-width-width).few

pub push_children-requires-clause-stand : goal.push_children-requires-clause-stand
push_children-requires-clause-stand c = let is =
    branch (goal.at.push_children-requires-clause-stand c).After-width-width in omega (arith, is.stand)

pub push_children-requires-clause-room : goal.push_children-requires-clause-room
push_children-requires-clause-room c =
    omega (
      arith,
      length-mask_digits c.width-width.result c.args.mask,
      ap child_limit c.width-width.ensures.value,
      c.requires.room,
    )

pub returns : goal.returns
returns c =
    let tree : TreeView = c.args.self.now in
    let node = c.args.node.now in
    let w = c.width-width.ensures in
    record {
      pushed = given-way tree node c.width-width.result c.requires.of w.value w.some w.few c.args.end c.args.mask
          (reverse c.args.stack.now.items) (reverse c.push_children.new.stack.items)
          (branch-some tree.places tree.nodes tree.narrow node.below
          (node_prefix node) c.args.end c.args.mask c.requires.kind)
          (branch (goal.at.returns c).After-width-width) c.push_children.ensures;
    }

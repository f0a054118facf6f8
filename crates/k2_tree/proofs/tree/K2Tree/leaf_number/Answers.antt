use Rattle.k2_tree.specs.Groups.{square_at}
use Rattle.k2_tree.specs.Tree.{tree_of}
use Rattle.k2_tree.specs.TreeSquares.{IsSquareOf}
use Rattle.k2_tree.proofs.CellLemmas.{IsTree-stored}
use Rattle.k2_tree.proofs.WayLemmas.{upper_few}
use Rattle.k2_tree.proofs.StoredLemmas.{leaf_cell}
use Rattle.std.proofs.Common.{ap}
use Rattle.std.proofs.Common.{arith}
use Rattle.k2_tree.proofs.tree.K2Tree.leaf_number.Goals as goal

pub overflow_sub-result : goal.overflow_sub-result
overflow_sub-result g c =
    let tree = c.self.inside in
    let of : IsSquareOf (tree_of tree.height tree.wide tree.base tree.bits) c.args.square.now =
    rw c.self.view_is c.requires.of in
    omega (
      arith,
      (leaf_cell c.self.invariant of c.requires.leaf).0,
      c.number.ensures,
      c.square_at.ensures,
      ap (λ n. square_at tree.upper n) c.len.ensures,
    )

pub returns-clause-value : goal.returns-clause-value
returns-clause-value g c =
    let tree = c.self.inside in
    let of : IsSquareOf (tree_of tree.height tree.wide tree.base tree.bits) c.args.square.now =
    rw c.self.view_is c.requires.of in
    rw (← c.self.view_is, c.number.ensures, c.square_at.ensures, c.len.ensures)
    (leaf_cell c.self.invariant of c.requires.leaf).1

pub returns-clause-tree : goal.returns-clause-tree
returns-clause-tree g c = rw (← c.self.view_is) (IsTree-stored c.self.invariant)

pub square_at-requires : goal.square_at-requires
square_at-requires g c =
    omega (arith, upper_few c.self.invariant.tree, c.self.invariant.upper_is, c.self.invariant.tree.few)

use Rattle.k2_tree.specs.Groups.{square_at}
use Rattle.k2_tree.specs.Tree.{Tree}
use Rattle.k2_tree.proofs.CellLemmas.{no_cells, leaf_count, IsTree-stored}
use Rattle.k2_tree.proofs.WayLemmas.{upper_few}
use Rattle.std.proofs.Common.{length, arith, ap, sym}
use Rattle.packed_bits.proofs.OnesLemmas.{ones_of-le-length}
use Rattle.k2_tree.proofs.tree.K2Tree.leaves.Goals as goal

pub returns-then-len-eq0-clause-value : goal.returns-then-len-eq0-clause-value
returns-then-len-eq0-clause-value c =
    let tree = c.self.inside in
    rw (← c.self.view_is)
    (sym (ap length (no_cells tree.height tree.wide tree.base tree.bits (omega (arith, c.len.ensures)))))

pub returns-then-len-eq0-clause-tree : goal.returns-then-len-eq0-clause-tree
returns-then-len-eq0-clause-tree c = rw (← c.self.view_is) (IsTree-stored c.self.invariant)

pub overflow_add-result : goal.overflow_add-result
overflow_add-result c =
    omega (arith, c.ones.ensures, ones_of-le-length c.self.inside.bits, c.self.invariant.tree.few)

pub overflow_sub-result : goal.overflow_sub-result
overflow_sub-result c =
    let count = leaf_count c.self.invariant (omega (arith, c.len.ensures)) in
    omega (
      arith,
      c.ones.ensures,
      c.len.ensures,
      c.square_at.ensures,
      ap (λ n. square_at c.self.inside.upper n) c.len-2.ensures,
      count,
    )

pub returns-clause-value : goal.returns-clause-value
returns-clause-value c =
    let count = leaf_count c.self.invariant (omega (arith, c.len.ensures)) in
    let same = ap (λ (t : Tree). length t.cells) c.self.view_is in
    omega (
      arith,
      c.ones.ensures,
      c.len.ensures,
      c.square_at.ensures,
      ap (λ n. square_at c.self.inside.upper n) c.len-2.ensures,
      count,
      same,
    )

pub returns-clause-tree : goal.returns-clause-tree
returns-clause-tree c = rw (← c.self.view_is) (IsTree-stored c.self.invariant)

pub square_at-requires : goal.square_at-requires
square_at-requires c =
    omega (arith, upper_few c.self.invariant.tree, c.self.invariant.upper_is, c.self.invariant.tree.few)

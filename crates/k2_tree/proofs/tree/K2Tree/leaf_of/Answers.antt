use Rattle.std.proofs.Common.{false, true, refl, arith, ◌≡◌}
use Rattle.list_laws.proofs.MemberLemmas.{no_member}
use Rattle.k2_tree.specs.Widths.{widths_of}
use Rattle.k2_tree.specs.Tree.{codes_in}
use Rattle.k2_tree.proofs.MortonLemmas.{morton_of-lt}
use Rattle.k2_tree.proofs.CellLemmas.{outside_cell, no_cells, told}
use Rattle.k2_tree.proofs.tree.K2Tree.leaf_of.Goals as goal

pub returns-then-len-eq0-clause-value : goal.returns-then-len-eq0-clause-value
returns-then-len-eq0-clause-value g c =
    let tree = c.self.inside in
    let none = no_cells tree.height tree.wide tree.base tree.bits (omega (arith, c.len.ensures)) in
    rw (← c.self.view_is, none) (λ inside. no_member c.args.cell inside)

pub returns-then-not-is_in_grid-clause-value : goal.returns-then-not-is_in_grid-clause-value
returns-then-not-is_in_grid-clause-value g c =
    let tree = c.self.inside in
    rw (← c.self.view_is) (outside_cell (codes_in (widths_of tree.height tree.wide) tree.bits)
    (λ inside. let clash : false ≡ true = c.if-not-is_in_grid.ensures.1 inside in absurd (cc)))

pub find_leaf-requires-clause-small : goal.find_leaf-requires-clause-small
find_leaf-requires-clause-small g c =
    let tree = c.self.inside in omega (arith, c.morton-code.ensures, morton_of-lt tree.height tree.base c.args.cell)

pub returns-clause-value : goal.returns-clause-value
returns-clause-value g c =
    rw (← c.self.view_is) (told c.self.invariant c.find_leaf.result (c.if-not-is_in_grid.ensures.0 refl)
    (rw c.morton-code.ensures at c.find_leaf.ensures.value))

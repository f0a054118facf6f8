use Rattle.std.proofs.Common.{Some, length, arith, ap, sym, ◌∙◌}
use Rattle.std.specs.Option.{option_map}
use Rattle.std.proofs.lemmas.List.{length-map}
use Rattle.std.proofs.lemmas.Option.{slice_get-map}
use Rattle.k2_tree.specs.Morton.{cell_of}
use Rattle.k2_tree.specs.Widths.{widths_of}
use Rattle.k2_tree.specs.Tree.{Tree, codes_in}
use Rattle.k2_tree.proofs.tree.K2Tree.leaf_cell.Goals as goal

pub code_of_leaf-code-requires-clause-within : goal.code_of_leaf-code-requires-clause-within
code_of_leaf-code-requires-clause-within g c =
    let tree = c.self.inside in
    let same = ap (λ (t : Tree). length t.cells) c.self.view_is in
    omega (
      arith,
      same,
      length-map (codes_in (widths_of tree.height tree.wide) tree.bits)
          (cell_of tree.height tree.base),
    )

pub returns-clause-value : goal.returns-clause-value
returns-clause-value g c =
    let tree = c.self.inside in
    rw (← c.self.view_is)
    (slice_get-map (cell_of tree.height tree.base) (codes_in (widths_of tree.height tree.wide) tree.bits) c.args.leaf
    ∙ ap (option_map (cell_of tree.height tree.base)) c.code_of_leaf-code.ensures.value
    ∙ ap Some (sym c.cell_at.ensures))

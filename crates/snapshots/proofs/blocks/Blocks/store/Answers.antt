use Rattle.std.proofs.Common.{◌≡◌, sym, ap, ◌∙◌, arith, length}
use Rattle.std.proofs.lemmas.Grind.{common_steps}
use Rattle.std.proofs.lemmas.Bool.{eqb-true}
use Rattle.k2_tree.specs.Tree.{tree_bits}
use Rattle.snapshots.proofs.AbsentLemmas.{parts_with-absent, tree_bits-absent}
use Rattle.snapshots.proofs.blocks.Blocks.store.Goals as goal

pub returns-then-is_empty-clause-parts : goal.returns-then-is_empty-clause-parts
returns-then-is_empty-clause-parts c =
    let none : length c.args.offsets ≡ 0 = sym (ap length c.as_slice.ensures)
    ∙ eqb-true (length c.as_slice.result.now) 0 (sym c.is_empty.ensures ∙ c.if-is_empty.true) in
    parts_with-absent (record {
      present = c.args.present;
      offsets = c.args.offsets;
      tree = tree_bits c.args.tree;
      lasts = c.args.lasts;
      perm = c.args.perm;
      lengths = c.args.lengths;
    }) (omega (arith, none, c.requires.offsets)) none
    (tree_bits-absent c.args.lasts c.args.tree (omega (arith, none, c.requires.offsets, c.requires.lasts))
    c.requires.cells)
    (omega (arith, none, c.requires.offsets, c.requires.lasts))
    (omega (arith, none, c.requires.offsets, c.requires.perm))
    (omega (arith, none, c.requires.offsets, c.requires.lengths))

pub returns-in_err-indexed-clause-starts : goal.returns-in_err-indexed-clause-starts
returns-in_err-indexed-clause-starts c = grind (arith, common_steps)

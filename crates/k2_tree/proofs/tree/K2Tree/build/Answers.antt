use Rattle.std.proofs.Common.{◌≡◌, length, map, arith, sym, ap, ◌∙◌, subst}
use Rattle.std.proofs.lemmas.List.{length-map}
use Rattle.k2_tree.specs.Morton.{morton_of}
use Rattle.k2_tree.specs.Widths.{widths_of}
use Rattle.k2_tree.specs.TreeBits.{Rises, morton_bits}
use Rattle.k2_tree.specs.Groups.{upper_squares}
use Rattle.k2_tree.specs.Tree.{IsStoredTree, tree_of, tree_with}
use Rattle.k2_tree.proofs.RisingLemmas.{rises}
use Rattle.k2_tree.proofs.BuiltLemmas.{built}
use Rattle.k2_tree.proofs.tree.K2Tree.build.Goals as goal
use Rattle.k2_tree.proofs.tree.K2Tree.build.Goals.{In-Ok}

pub split_by_codes-requires-clause-ascending : goal.split_by_codes-requires-clause-ascending
split_by_codes-requires-clause-ascending c =
    subst (Rises 0) (sym (c.as_slice.ensures.value ∙ c.in_ok-codes.ensures.ok))
    (rises (map (morton_of c.args.height c.args.base) c.args.cells.now) c.requires.ascending)

pub split_by_codes-requires-clause-few : goal.split_by_codes-requires-clause-few
split_by_codes-requires-clause-few c =
    omega (
      arith,
      ap length (c.as_slice.ensures.value ∙ c.in_ok-codes.ensures.ok),
      length-map c.args.cells.now (morton_of c.args.height c.args.base),
      c.requires.few,
    )

-- a tree that is stored, of these cells
stored : (c : In-Ok) → IsStoredTree c.args.height c.args.wide c.args.base c.in-Ok.bits c.in_ok-list.upper
    × (tree_of c.args.height c.args.wide c.args.base c.in-Ok.bits
    ≡ tree_with c.args.height c.args.wide c.args.base c.args.cells.now)
stored c =
    let given = c.requires in
    let codes = c.as_slice.ensures.value ∙ c.in_ok-codes.ensures.ok in
    built c.args.height c.args.wide c.args.base c.args.cells.now c.in-Ok.bits c.in_ok-list.upper given.grid given.fits
    given.few given.inside given.ascending
    (c.in-Ok.ensures.ok ∙ c.in_ok-list.ensures.bits ∙ ap (morton_bits (widths_of c.args.height c.args.wide)) codes)
    (c.in_ok-list.ensures.upper ∙ ap (upper_squares c.args.height c.args.wide) codes)

pub invariant_of-result : goal.invariant_of-result
invariant_of-result c = (stored (goal.at.invariant_of-result c).In-Ok).0

pub returns-in-Ok : goal.returns-in-Ok
returns-in-Ok c = record { ok = (stored (goal.at.returns-in-Ok c).In-Ok).1 }

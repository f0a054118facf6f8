use Rattle.std.proofs.Common.{◌≡◌, ap, arith, length, sym, subst, ◌∙◌}
use Rattle.std.proofs.lemmas.List.{length-map}
use Rattle.k2_tree.specs.Morton.{morton_of}
use Rattle.k2_tree.specs.Tree.{codes_of, tree_bits}
use Rattle.k2_tree.specs.TreeBits.{Rises}
use Rattle.snapshots.specs.View.{tree_in}
use Rattle.snapshots.proofs.SoundLemmas.{wide_of-fits}
use Rattle.snapshots.proofs.UpgradeLemmas.{few_cells}
use Rattle.snapshots.proofs.upgrading.newest_tree.Given.{Over}
use Rattle.snapshots.proofs.upgrading.newest_tree.Goals as goal
use Rattle.snapshots.proofs.upgrading.newest_tree.Goals.{After-as_slice}

-- the Morton numbers are those of the tree
codes : (g : Over) (c : After-as_slice g) → c.as_slice.result.now ≡ codes_of (tree_in c.args.snapshot.now)
codes g c = c.as_slice.ensures.value ∙ c.in_ok-listing.ensures.codes ∙ ap codes_of c.tree.ensures.value

pub bits_of_codes-requires-clause-ascending : goal.bits_of_codes-requires-clause-ascending
bits_of_codes-requires-clause-ascending g c =
    subst (Rises 0) (sym (codes g (goal.at.bits_of_codes-requires-clause-ascending g c).After-as_slice))
    c.tree.ensures.snapshot.sound.tree.is_tree.codes.rising

pub bits_of_codes-requires-clause-few : goal.bits_of_codes-requires-clause-few
bits_of_codes-requires-clause-few g c =
    let view = c.args.snapshot.now in
    omega (
      arith,
      ap length (codes g (goal.at.bits_of_codes-requires-clause-few g c).After-as_slice),
      length-map (tree_in view).cells (morton_of view.frame.height view.frame.base),
      few_cells view c.tree.ensures.snapshot,
    )

pub bits_of_codes-requires-clause-fits : goal.bits_of_codes-requires-clause-fits
bits_of_codes-requires-clause-fits g c = omega (arith, c.wide_levels.ensures, wide_of-fits c.newest-frame.result)

pub returns-clause-ok : goal.returns-clause-ok
unfolding tree_bits
returns-clause-ok g c =
    rw (
      c.wide_levels.ensures,
      codes g (goal.at.returns-clause-ok g c).After-as_slice,
      c.newest-frame.ensures,
      c.frame.ensures.value,
    ) at c.bits_of_codes.ensures.ok

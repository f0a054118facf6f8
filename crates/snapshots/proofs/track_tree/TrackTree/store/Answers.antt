use Rattle.std.proofs.Common.{arith}
use Rattle.std.proofs.lemmas.Grind.{common_steps}
use Rattle.snapshots.proofs.KeptLemmas.{are_levels}
use Rattle.snapshots.proofs.SoundLemmas.{wide_of-fits}
use Rattle.snapshots.proofs.track_tree.TrackTree.store.Goals as goal

pub overflow_sub-levels : goal.overflow_sub-levels
overflow_sub-levels c = omega (arith, c.wide_levels-wide.ensures, wide_of-fits c.args.frame.now)

pub overflow_sub-narrow : goal.overflow_sub-narrow
overflow_sub-narrow c = omega (arith, c.wide_levels-wide.ensures, wide_of-fits c.args.frame.now)

pub build-requires-clause-levels : goal.build-requires-clause-levels
build-requires-clause-levels c =
    rw c.wide_levels-wide.ensures (are_levels c.args.frame.now c.requires.header)

pub build-requires-clause-places : goal.build-requires-clause-places
build-requires-clause-places c =
    rw (c.wide_levels-wide.ensures, c.requires.codes) c.requires.places

pub invariant_of-kept : goal.invariant_of-kept
invariant_of-kept c = grind (arith, common_steps)

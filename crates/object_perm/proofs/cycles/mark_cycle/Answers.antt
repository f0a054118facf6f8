use Rattle.std.proofs.Common.{◌+◌, ◌<◌, length, get_or, refl, arith}
use Rattle.object_perm.proofs.SeenLemmas.{seen_kept}
use Rattle.object_perm.proofs.CycleLemmas.{cycle_begins, cycle_goes_on, cycle_stores, unseen_falls, next_within}
use Rattle.object_perm.proofs.CycleEndLemmas.{cycle_ends_short, cycle_ends_long}
use Rattle.object_perm.proofs.cycles.mark_cycle.Goals as goal

pub loop-place-init : goal.loop-place-init
loop-place-init c =
    let settled = c.requires.settled in
    let within : c.args.leader < length c.args.seen.now = omega (arith, settled.seen_length, c.requires.within) in
    record {
      walk = cycle_begins _ _ _ _ c.requires.within c.requires.unseen settled;
      kept = λ y is_seen. seen_kept _ _ _ within is_seen;
    }

pub loop-place-smaller : goal.loop-place-smaller
loop-place-smaller c = unseen_falls _ _ _ _ _ _ _ c.requires.permutes c.loop-place.invariant.walk c.loop-place-test.true

pub loop-place-smaller-then-gap-eq-GAP : goal.loop-place-smaller-then-gap-eq-GAP
loop-place-smaller-then-gap-eq-GAP c = unseen_falls _ _ _ _ _ _ _ c.requires.permutes c.loop-place.invariant.walk c.loop-place-test.true

pub loop-place-preserved : goal.loop-place-preserved
loop-place-preserved c =
    let walk = c.loop-place.invariant.walk in
    let short : c.loop-place.gap + 1 < 16 = omega (arith, walk.short, c.if-gap-eq-GAP.false) in
    let within = next_within _ _ _ _ _ _ _ c.requires.permutes walk in
    record {
      walk = cycle_goes_on _ _ _ _ _ _ _ (get_or c.args.values.now c.loop-place.place 0) c.requires.permutes walk refl c.loop-place-test.true short;
      kept = λ y is_seen. seen_kept _ _ _ within (c.loop-place.invariant.kept y is_seen);
    }

pub loop-place-preserved-then-gap-eq-GAP : goal.loop-place-preserved-then-gap-eq-GAP
loop-place-preserved-then-gap-eq-GAP c =
    let walk = c.loop-place.invariant.walk in
    let within = next_within _ _ _ _ _ _ _ c.requires.permutes walk in
    record {
      walk = cycle_stores _ _ _ _ _ _ _ (get_or c.args.values.now c.loop-place.place 0) c.requires.permutes walk refl c.loop-place-test.true;
      kept = λ y is_seen. seen_kept _ _ _ within (c.loop-place.invariant.kept y is_seen);
    }

pub returns-then-stored-leader-clause-settled : goal.returns-then-stored-leader-clause-settled
returns-then-stored-leader-clause-settled c =
    cycle_ends_long _ _ _ _ _ _ _ c.requires.permutes c.loop-place.invariant.walk c.loop-place-test.false c.if-stored-leader.true

pub returns-else-stored-leader-clause-settled : goal.returns-else-stored-leader-clause-settled
returns-else-stored-leader-clause-settled c =
    cycle_ends_short _ _ _ _ _ _ _ c.requires.permutes c.loop-place.invariant.walk c.loop-place-test.false c.if-stored-leader.false

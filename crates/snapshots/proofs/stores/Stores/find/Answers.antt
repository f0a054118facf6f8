use Rattle.std.proofs.Common.{◌≡◌, ◌<◌, Some, ap, length, subst, sym, ◌∙◌, arith}
use Rattle.snapshots.specs.Parts.{rules_in, snapshot_in}
use Rattle.snapshots.specs.Sound.{IsSnapshot}
use Rattle.snapshots.specs.View.{SnapshotView, block_at, block_of}
use Rattle.snapshots.proofs.BlockFactsLemmas.{IsBlock-from_block_of}
use Rattle.snapshots.proofs.KeptLemmas.{length-by_leaf}
use Rattle.snapshots.proofs.TracksLemmas.{block_kept-at, count_is}
use Rattle.snapshots.proofs.stores.Stores.find.Given.{Over}
use Rattle.snapshots.proofs.stores.Stores.find.Goals as goal
use Rattle.snapshots.proofs.stores.Stores.find.Goals.{In_ok-place}

-- the place that was found is one of the period's
at_place : (g : Over) (c : In_ok-place g) → IsSnapshot (snapshot_in c.args.self.now c.args.period)
    × (c.in_ok-place.place < length (snapshot_in c.args.self.now c.args.period).parts.perm)
at_place g c = (
  subst IsSnapshot c.snapshot.ensures.value c.in_ok-place.ensures.snapshot,
  subst (λ (s : SnapshotView). c.in_ok-place.place < length s.parts.perm) c.snapshot.ensures.value c.in_ok-place.ensures.placed.within,
)

pub unreachable-requires : goal.unreachable-requires
unreachable-requires g c =
    let at = at_place g (goal.at.unreachable-requires g c).In_ok-place in
    omega (arith, at.1, length-by_leaf (snapshot_in c.args.self.now c.args.period), ap length c.in_default.ensures.none)

pub block-requires-clause-within : goal.block-requires-clause-within
block-requires-clause-within g c =
    let at = at_place g (goal.at.block-requires-clause-within g c).In_ok-place in
    let view : SnapshotView = snapshot_in c.args.self.now c.args.period in
    let count = count_is view at.0 (rules_in c.args.self.now) c.in-Some.kept.now c.in-Some.ensures.kept in
    omega (arith, at.1, count, length-by_leaf view)

pub returns-clause-value : goal.returns-clause-value
returns-clause-value g c =
    let at = at_place g (goal.at.returns-clause-value g c).In_ok-place in
    let view : SnapshotView = snapshot_in c.args.self.now c.args.period in
    let place = c.in_ok-place.place in
    ap Some (c.block.ensures.value
    ∙ block_kept-at view at.0 (rules_in c.args.self.now) c.in-Some.kept.now c.in-Some.ensures.kept place at.1)
    ∙ sym (subst (λ (s : SnapshotView). block_of s c.args.index ≡ Some (block_at s place)) c.snapshot.ensures.value
    c.in_ok-place.ensures.placed.block)

pub returns-clause-block : goal.returns-clause-block
returns-clause-block g c =
    let at = at_place g (goal.at.returns-clause-block g c).In_ok-place in
    IsBlock-from_block_of (snapshot_in c.args.self.now c.args.period) at.0 c.args.index c.block.result
    (sym (returns-clause-value g c))

use Rattle.std.proofs.Common.{◌≡◌, ◌<◌, rules, arith, ap, get_or, length, subst, vec_len, ◌∙◌}
use Rattle.std.proofs.lemmas.Iterator.Adapters.{YieldsList-from_vec}
use Rattle.std.proofs.lemmas.Iterator.Consumers.{YieldsList-end, YieldsList-turn}
use Rattle.std.proofs.lemmas.List.{length_push}
use Rattle.track_types.specs.Frame.{periods_of}
use Rattle.track_types.specs.declared.parts.Parts.{Parts}
use Rattle.snapshots.specs.Bounded.{blocks_bounds}
use Rattle.snapshots.specs.Stores.{join_of}
use Rattle.snapshots.specs.TrackTree.{IsOfPeriod}
use Rattle.snapshots.proofs.BoundedLemmas.{anchors-bounded, turn-bounds}
use Rattle.snapshots.proofs.JoinLemmas.{few-snaps, length-snaps, reads-within, snapshot-read, turn-flawless, turn-joined, turn-reads}
use Rattle.snapshots.proofs.JoinLemmas.{IsJoined, IsTurn}
use Rattle.snapshots.proofs.SoundPartsLemmas.{AreStores-joined}
use Rattle.snapshots.proofs.stores.Stores.join_bounded.Given.{Over}
use Rattle.snapshots.proofs.stores.Stores.join_bounded.Goals as goal
use Rattle.snapshots.proofs.stores.Stores.join_bounded.Goals.{After-index-snapshot, After-sizes}

-- the bounds of a turn are those of the next period
next : (g : Over) (c : After-index-snapshot g) → (length c.loop-of_period.yielded < length c.args.bounds.items)
    × (c.in-Some.of_period ≡ get_or c.args.bounds.items (length c.loop-of_period.yielded) c.in-Some.of_period)
next g c =
    let size : vec_len c.args.bounds ≡ length c.args.bounds.items = search rules in
    let given = c.into_iter-of_period-iterator.ensures.into_iter_gives in
    YieldsList-turn (YieldsList-from_vec {s = c.into_iter-of_period-iterator.result} c.args.bounds.items given.0
    (given.1 ∙ size)) c.loop-of_period.yielded c.loop-of_period.of_period-iterator c.loop-of_period.yielded_by
    c.next.result c.next.new.self c.in-Some.of_period c.in-Some.is c.next.ensures.steps

-- and the snapshot is that of this period
turn : (g : Over) (c : After-index-snapshot g)
    → IsTurn (join_of c.args.frame c.args.objects c.args.rules c.args.snaps.items) c.args.rules c.args.snaps.items
    (length c.loop-of_period.yielded) c.index-snapshot.result.now
turn g c =
    let parts : Parts = join_of c.args.frame c.args.objects c.args.rules c.args.snaps.items in
    let number = length c.loop-of_period.yielded in
    let within : number < periods_of parts.frame = omega (arith, (next g c).0, c.requires.bounds.long) in
    let counted : c.len-number.result ≡ number = omega (arith, c.len-number.ensures, c.loop-of_period.invariant.filled) in
    record {
      of = c.requires.of;
      within = within;
      item_is = c.index-snapshot.ensures
          ∙ ap (λ n. get_or c.args.snaps.items n c.index-snapshot.result.now) counted
          ∙ snapshot-read parts c.args.rules c.args.snaps.items c.requires.of number c.index-snapshot.result.now
          (omega (arith, within, length-snaps parts c.args.rules c.args.snaps.items c.requires.of));
    }

-- the number of the period
within : (g : Over) (c : After-index-snapshot g) → length c.loop-of_period.yielded < length c.args.snaps.items
within g c =
    omega (
      arith,
      (next g c).0,
      c.requires.bounds.long,
      length-snaps _ c.args.rules c.args.snaps.items c.requires.of,
    )

-- the bounds are those of the snapshot's blocks
bounded : (g : Over) (c : After-index-snapshot g) → c.in-Some.of_period.items ≡ blocks_bounds c.args.rules c.index-snapshot.result.now
bounded g c =
    turn-bounds _ c.args.rules c.args.snaps.items c.args.bounds.items (length c.loop-of_period.yielded)
    c.index-snapshot.result.now c.in-Some.of_period (turn g c) c.requires.bounds (next g c).1

-- what is known after the last turn
all_joined : (g : Over) (c : After-sizes g)
    → let parts : Parts = join_of c.args.frame c.args.objects c.args.rules c.args.snaps.items in
    IsJoined parts (periods_of parts.frame) c.args.steps.now c.loop-of_period.steps c.loop-of_period.speeds.items
    c.loop-of_period.tracks.items
all_joined g c =
    let parts : Parts = join_of c.args.frame c.args.objects c.args.rules c.args.snaps.items in
    let size : vec_len c.args.bounds ≡ length c.args.bounds.items = search rules in
    let given = c.into_iter-of_period-iterator.ensures.into_iter_gives in
    let end = YieldsList-end (YieldsList-from_vec {s = c.into_iter-of_period-iterator.result} c.args.bounds.items given.0
    (given.1 ∙ size)) c.loop-of_period.yielded c.loop-of_period.of_period-iterator c.loop-of_period.yielded_by
    c.next.result c.next.new.self c.in-None.is c.next.ensures.steps in
    let last : length c.loop-of_period.yielded ≡ periods_of parts.frame = end.1 ∙ c.requires.bounds.long in
    subst (λ n. IsJoined parts n c.args.steps.now c.loop-of_period.steps c.loop-of_period.speeds.items
    c.loop-of_period.tracks.items) last c.loop-of_period.invariant.joined

-- the number of the period fits its type
pub overflow_cast-number : goal.overflow_cast-number
overflow_cast-number g c =
    omega (
      arith,
      c.len-number.ensures,
      c.loop-of_period.invariant.filled,
      within g (goal.at.overflow_cast-number g c).After-index-snapshot,
      few-snaps _ c.args.rules c.args.snaps.items c.requires.of,
    )

pub keep_bounded-requires : goal.keep_bounded-requires
keep_bounded-requires g c =
    let at = (goal.at.keep_bounded-requires g c).After-index-snapshot in
    record {
      bounds = anchors-bounded c.args.rules c.index-snapshot.result.now c.deref.result.now (c.deref.ensures.value ∙ bounded g at);
      may = c.requires.may _;
    }

pub returns-in_err-kept-clause-cost : goal.returns-in_err-kept-clause-cost
returns-in_err-kept-clause-cost g c =
    turn-reads _ _ _ _ _ (turn g (goal.at.returns-in_err-kept-clause-cost g c).After-index-snapshot)
    c.args.steps.now c.loop-of_period.steps c.loop-of_period.invariant.joined.joining c.keep_bounded.new.steps
    (omega (arith, c.keep_bounded.ensures.cost))

pub push_reserved-requires : goal.push_reserved-requires
push_reserved-requires g c =
    omega (arith, c.loop-of_period.invariant.filled, c.loop-of_period.invariant.room, within g (goal.at.push_reserved-requires g c).After-index-snapshot)

pub push_reserved-requires-in-loop-of_period : goal.push_reserved-requires-in-loop-of_period
push_reserved-requires-in-loop-of_period g c =
    omega (
      arith,
      c.loop-of_period.invariant.tracks_filled,
      c.loop-of_period.invariant.tracks_room,
      within g (goal.at.push_reserved-requires-in-loop-of_period g c).After-index-snapshot,
    )

pub loop-of_period-preserved : goal.loop-of_period-preserved
loop-of_period-preserved g c =
    let at = (goal.at.loop-of_period-preserved g c).After-index-snapshot in
    let turn = turn g at in
    let bounds = c.deref.ensures.value ∙ bounded g at in
    let so_far = c.loop-of_period.invariant in
    let kept = c.in_ok-kept.kept in
    rw (length_push c.loop-of_period.yielded c.in-Some.of_period) (record {
      joined = turn-joined _ _ _ _ _ turn c.args.steps.now c.loop-of_period.steps c.keep_bounded.new.steps _ _ _ _ kept
          so_far.joined (omega (arith, c.keep_bounded.ensures.cost)) c.in_ok-kept.ensures.snapshot
          (turn-flawless _ _ _ _ _ turn c.requires.flawless) (c.in_ok-kept.ensures.speed c.args.rules bounds)
          (c.in_ok-kept.ensures.tracks c.args.rules bounds)
          (subst (λ n. IsOfPeriod n kept.tracks) (c.len-number.ensures ∙ so_far.filled) c.in_ok-kept.ensures.period)
          c.push_reserved.ensures.items c.push_reserved-in-loop-of_period.ensures.items;
      filled = omega (arith, c.push_reserved.ensures.len, so_far.filled);
      room = omega (arith, c.push_reserved.ensures.capacity, so_far.room);
      tracks_filled = omega (arith, c.push_reserved-in-loop-of_period.ensures.len, so_far.tracks_filled);
      tracks_room = omega (arith, c.push_reserved-in-loop-of_period.ensures.capacity, so_far.tracks_room);
    })

pub invariant_of-result : goal.invariant_of-result
invariant_of-result g c =
    let all = all_joined g (goal.at.invariant_of-result g c).After-sizes in
    AreStores-joined _ c.args.rules c.args.snaps.items c.loop-of_period.speeds.items c.loop-of_period.tracks.items
    c.args.steps.now c.loop-of_period.steps c.requires.of c.sizes.ensures.sound all

pub returns-clause-cost : goal.returns-clause-cost
returns-clause-cost g c =
    let all = all_joined g (goal.at.returns-clause-cost g c).After-sizes in
    reads-within _ c.args.rules c.args.snaps.items c.requires.of c.args.steps.now c.loop-of_period.steps all.joining

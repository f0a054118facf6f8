use Rattle.std.proofs.Common.{◌≡◌, arith, ap, length, subst, sym, ◌∙◌}
use Rattle.std.proofs.lemmas.Result.{err_from_is_err_and}
use Rattle.track_types.specs.Frame.{periods_of}
use Rattle.track_types.specs.declared.parts.Parts.{Parts}
use Rattle.snapshots.specs.View.{SnapshotView}
use Rattle.snapshots.specs.TrackTree.{IsOfPeriod}
use Rattle.snapshots.specs.Stores.{join_of}
use Rattle.snapshots.proofs.JoinLemmas.{few-snaps, length-snaps, logs_flaw-none, reads-within, turn-flaw, turn-joined, turn-reads}
use Rattle.snapshots.proofs.JoinLemmas.{turn-symbols, IsJoined, IsTurn, IsTurn-read}
use Rattle.snapshots.proofs.SoundPartsLemmas.{AreStores-joined, IsSound-joined}
use Rattle.snapshots.proofs.ReachLemmas.{within-reach}
use Rattle.snapshots.proofs.TrackLemmas.{on-tracks}
use Rattle.snapshots.proofs.stores.Stores.join.Given.{Over}
use Rattle.snapshots.proofs.stores.Stores.join.Goals as goal
use Rattle.snapshots.proofs.stores.Stores.join.Goals.{After-judge_snapshot-arg-1, After-sizes}

-- the snapshot that a turn judges
turn_of : (g : Over) (c : After-judge_snapshot-arg-1 g)
    → IsTurn (join_of c.args.frame c.args.objects c.args.rules c.args.snaps.items) c.args.rules c.args.snaps.items
    c.loop-snapshot.snapshot-index c.snapshot-item.result
turn_of g c =
    IsTurn-read _ c.args.rules c.args.snaps.items c.deref-snapshot-items.result.now c.loop-snapshot.snapshot-index
    c.snapshot-item.result c.requires.of c.deref-snapshot-items.ensures.value c.loop-snapshot-test.true c.snapshot-item.is

-- what is known after the last turn
all_joined : (g : Over) (c : After-sizes g)
    → let parts : Parts = join_of c.args.frame c.args.objects c.args.rules c.args.snaps.items in
    IsJoined parts (periods_of parts.frame) c.args.steps.now c.loop-snapshot.steps c.loop-snapshot.speeds.items
    c.loop-snapshot.tracks.items
all_joined g c =
    let parts : Parts = join_of c.args.frame c.args.objects c.args.rules c.args.snaps.items in
    let last : c.loop-snapshot.snapshot-index ≡ periods_of parts.frame =
    omega (
      arith,
      c.loop-snapshot-test.false,
      ap length c.deref-snapshot-items.ensures.value,
      length-snaps parts c.args.rules c.args.snaps.items c.requires.of,
    ) in
    subst (λ n. IsJoined parts n c.args.steps.now c.loop-snapshot.steps c.loop-snapshot.speeds.items
    c.loop-snapshot.tracks.items) last c.loop-snapshot.invariant.joined

-- the turn's number is that of a period
pub overflow_cast-number : goal.overflow_cast-number
overflow_cast-number g c =
    omega (
      arith,
      c.len-number.ensures,
      c.loop-snapshot.invariant.filled,
      c.loop-snapshot-test.true,
      ap length c.deref-snapshot-items.ensures.value,
      few-snaps _ c.args.rules c.args.snaps.items c.requires.of,
    )

pub judge_snapshot-requires : goal.judge_snapshot-requires
judge_snapshot-requires g c =
    let turn = turn_of g (goal.at.judge_snapshot-requires g c).After-judge_snapshot-arg-1 in
    record {
      number = c.len-number.ensures ∙ c.loop-snapshot.invariant.filled
          ∙ sym (ap (λ (view : SnapshotView). view.number) turn.item_is);
      symbols = turn-symbols _ _ _ _ _ turn;
      period = c.requires.may _;
      may = λ read needed. c.requires.may read;
    }

pub returns-in_err-judged-clause-flaw : goal.returns-in_err-judged-clause-flaw
returns-in_err-judged-clause-flaw g c =
    let turn = turn_of g (goal.at.returns-in_err-judged-clause-flaw g c).After-judge_snapshot-arg-1 in
    let known = turn-flaw _ _ _ _ _ turn c.args.steps.now c.loop-snapshot.steps c.loop-snapshot.invariant.joined.joining
    c.in_err-judged.field-0.0 c.in_err-judged.ensures.flaw in
    let given = err_from_is_err_and c.from_residual-in_err-judged.result c.from_residual-in_err-judged.ensures.1 in
    rw (given.1, given.2) known

pub returns-in_err-judged-clause-cost : goal.returns-in_err-judged-clause-cost
returns-in_err-judged-clause-cost g c =
    turn-reads _ _ _ _ _ (turn_of g (goal.at.returns-in_err-judged-clause-cost g c).After-judge_snapshot-arg-1)
    c.args.steps.now c.loop-snapshot.steps c.loop-snapshot.invariant.joined.joining c.judge_snapshot.new.steps
    c.judge_snapshot.ensures.cost

pub push_reserved-requires : goal.push_reserved-requires
push_reserved-requires g c =
    omega (
      arith,
      c.loop-snapshot.invariant.filled,
      c.loop-snapshot.invariant.room,
      c.loop-snapshot-test.true,
      ap length c.deref-snapshot-items.ensures.value,
    )

pub push_reserved-requires-in-loop-snapshot : goal.push_reserved-requires-in-loop-snapshot
push_reserved-requires-in-loop-snapshot g c =
    omega (
      arith,
      c.loop-snapshot.invariant.tracks_filled,
      c.loop-snapshot.invariant.tracks_room,
      c.loop-snapshot-test.true,
      ap length c.deref-snapshot-items.ensures.value,
    )

pub loop-snapshot-preserved : goal.loop-snapshot-preserved
loop-snapshot-preserved g c =
    let turn = turn_of g (goal.at.loop-snapshot-preserved g c).After-judge_snapshot-arg-1 in
    let so_far = c.loop-snapshot.invariant in
    record {
      joined = turn-joined _ _ _ _ _ turn c.args.steps.now c.loop-snapshot.steps c.judge_snapshot.new.steps _ _ _ _
          c.in_ok-judged.judged so_far.joined c.judge_snapshot.ensures.cost c.in_ok-judged.ensures.snapshot
          c.in_ok-judged.ensures.exact c.in_ok-judged.ensures.speed c.in_ok-judged.ensures.tracks
          (subst (λ n. IsOfPeriod n c.in_ok-judged.judged.tracks) (c.len-number.ensures ∙ so_far.filled)
          c.in_ok-judged.ensures.period)
          c.push_reserved.ensures.items c.push_reserved-in-loop-snapshot.ensures.items;
      filled = omega (arith, c.push_reserved.ensures.len, so_far.filled);
      room = c.push_reserved.ensures.capacity ∙ so_far.room;
      tracks_filled = omega (arith, c.push_reserved-in-loop-snapshot.ensures.len, so_far.tracks_filled);
      tracks_room = omega (arith, c.push_reserved-in-loop-snapshot.ensures.capacity, so_far.tracks_room);
    }

pub invariant_of-result : goal.invariant_of-result
invariant_of-result g c =
    let all = all_joined g (goal.at.invariant_of-result g c).After-sizes in
    AreStores-joined _ c.args.rules c.args.snaps.items c.loop-snapshot.speeds.items c.loop-snapshot.tracks.items
    c.args.steps.now c.loop-snapshot.steps c.requires.of c.sizes.ensures.sound all

pub returns-clause-exact : goal.returns-clause-exact
returns-clause-exact g c =
    let all = all_joined g (goal.at.returns-clause-exact g c).After-sizes in
    logs_flaw-none _ c.args.rules c.args.snaps.items c.requires.of c.args.steps.now c.loop-snapshot.steps all.joining

pub returns-clause-sound : goal.returns-clause-sound
returns-clause-sound g c =
    let all = all_joined g (goal.at.returns-clause-sound g c).After-sizes in
    IsSound-joined _ c.args.rules c.args.snaps.items c.args.steps.now c.loop-snapshot.steps c.requires.of
    c.sizes.ensures.sound all.joining

pub returns-clause-within : goal.returns-clause-within
returns-clause-within g c =
    let all = all_joined g (goal.at.returns-clause-within g c).After-sizes in
    let parts : Parts = join_of c.args.frame c.args.objects c.args.rules c.args.snaps.items in
    within-reach parts (record {
      shaped = c.requires.of.shaped;
      sound = IsSound-joined parts c.args.rules c.args.snaps.items c.args.steps.now c.loop-snapshot.steps c.requires.of
          c.sizes.ensures.sound all.joining;
    })

pub returns-clause-tracks : goal.returns-clause-tracks
returns-clause-tracks g c = λ number within. on-tracks _ number

pub returns-clause-cost : goal.returns-clause-cost
returns-clause-cost g c =
    let all = all_joined g (goal.at.returns-clause-cost g c).After-sizes in
    reads-within _ c.args.rules c.args.snaps.items c.requires.of c.args.steps.now c.loop-snapshot.steps all.joining

use Rattle.std.proofs.Common.{◌≡◌, ◌≤◌, length, vec_capacity, vec_len}
use Rattle.snapshots.specs.Stores.{join_of}
use Rattle.snapshots.proofs.JoinLemmas.{IsJoined}
use Rattle.snapshots.proofs.stores.Stores.join_bounded.Given as goal

abbrev pub invariant-loop-of_period : goal.invariant-loop-of_period
invariant-loop-of_period g l = record {
  joined : IsJoined (join_of l.fn.frame l.fn.objects l.fn.rules l.fn.snaps.items) (length l.yielded) l.fn.steps l.steps
      l.speeds.items l.tracks.items;
  filled : vec_len l.speeds ≡ length l.yielded;
  room : length l.fn.snaps.items ≤ vec_capacity l.speeds;
  tracks_filled : vec_len l.tracks ≡ length l.yielded;
  tracks_room : length l.fn.snaps.items ≤ vec_capacity l.tracks;
}

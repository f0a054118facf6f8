use Rattle.std.proofs.Common.{◌≡◌, ◌≤◌, length, vec_capacity, vec_len}
use Rattle.snapshots.specs.Stores.{join_of}
use Rattle.snapshots.proofs.JoinLemmas.{IsJoined}
use Rattle.snapshots.proofs.stores.Stores.join.Given as goal

abbrev pub invariant-loop-snapshot : goal.invariant-loop-snapshot
invariant-loop-snapshot g l = record {
  joined : IsJoined (join_of l.fn.frame l.fn.objects l.fn.rules l.fn.snaps.items) l.snapshot-index l.fn.steps l.steps
      l.speeds.items l.tracks.items;
  filled : vec_len l.speeds ≡ l.snapshot-index;
  room : vec_capacity l.speeds ≡ length l.fn.snaps.items;
  tracks_filled : vec_len l.tracks ≡ l.snapshot-index;
  tracks_room : length l.fn.snaps.items ≤ vec_capacity l.tracks;
}

use Rattle.std.proofs.Common.{◌≡◌, ℕ, ◌+◌, ◌<◌, ◌≤◌, length, map, max, take, vec_capacity, vec_len}
use Rattle.std.specs.Prelude.{fold, sum}
use Rattle.snapshots.specs.Speed.{block_speed}
use Rattle.snapshots.specs.Tracks.{track_box}
use Rattle.snapshots.proofs.JudgingLemmas.{AreFlawless}
use Rattle.snapshots.proofs.logs.judge_logs.Given as goal

abbrev pub invariant-loop-rank : goal.invariant-loop-rank
invariant-loop-rank g l = record {
  none : AreFlawless l.fn.rules l.fn.snapshot l.rank;
  fastest : l.speed ≡ fold max 0 (map (block_speed l.fn.rules) (take l.rank l.fn.blocks));
  areas : l.areas.items ≡ map (track_box l.fn.rules) (take l.rank l.fn.blocks);
  filled : vec_len l.areas ≡ l.rank;
  room : length l.fn.blocks ≤ vec_capacity l.areas;
  from : ℕ;
  begins : 0 < length l.fn.snapshot.parts.perm → from ≡ l.fn.snapshot.start;
  rules_are : l.ahead.rules ≡ l.fn.rules;
  at : l.ahead.place ≡ from + sum (take l.rank l.fn.snapshot.parts.lengths);
  end_is : l.ahead.end ≡ from + sum l.fn.snapshot.parts.lengths;
  later : from ≤ l.ahead.read;
  within : l.ahead.read ≤ l.ahead.end;
  reads : l.steps + from ≤ l.fn.steps + l.ahead.read;
}

use Rattle.std.proofs.Common.{◌≡◌, ◌+◌, length}
use Rattle.snapshots.specs.Ahead.{AreStored}
use Rattle.snapshots.proofs.ahead.read_entries.Given as goal

abbrev pub invariant-loop-i : goal.invariant-loop-i
invariant-loop-i g l = record {
  long : length l.entries ≡ 16;
  stored : AreStored l.fn.rules l.entries l.from l.i;
  reads : l.steps ≡ l.fn.steps + l.i;
}

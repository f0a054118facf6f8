use Rattle.std.proofs.Common.{ℕ, ◌<◌}
use Rattle.object_perm.specs.Settled.{IsSeen, IsSettled}
use Rattle.object_perm.proofs.cycles.find_shortcuts.Given as goal

abbrev pub invariant-loop-leader : goal.invariant-loop-leader
invariant-loop-leader l = record {
  settled : IsSettled l.values l.seen.items l.shortcuts.items;
  behind : (place : ℕ) → place < l.leader → IsSeen l.seen.items place;
}

use Rattle.std.proofs.Common.{◌≡◌, ℕ, ◌+◌, ◌-◌, ◌<◌, ◌≤◌, length, get_or}
use Rattle.object_perm.specs.Walk.{along}
use Rattle.object_perm.proofs.perm.Perm.walk_to.Given as goal

abbrev pub invariant-loop-next : goal.invariant-loop-next
invariant-loop-next g l = record {
  moves : ℕ;
  path : along l.self moves l.from ≡ l.place;
  read : l.next ≡ get_or l.self l.place 0;
  within : l.place < length l.self;
  next_within : l.next < length l.self;
  cost : l.steps ≡ l.fn.steps + moves + 1;
  beyond : (more : ℕ) → 1 ≤ more → along l.self more l.from ≡ l.v → moves < more;
}

abbrev pub decreases-loop-next : goal.decreases-loop-next
decreases-loop-next g l = l.fn.steps + 17 - l.steps

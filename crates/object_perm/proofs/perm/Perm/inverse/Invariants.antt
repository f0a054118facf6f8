use Rattle.std.proofs.Common.{◌≡◌, ℕ, ◌+◌, ◌-◌, ◌*◌, ◌<◌, ◌≤◌, length, get_or, None}
use Rattle.object_perm.specs.Walk.{along}
use Rattle.object_perm.proofs.perm.Perm.inverse.Given as goal

abbrev pub invariant-loop-target : goal.invariant-loop-target
invariant-loop-target g l = record {
  moves : ℕ;
  path : along l.self moves l.v ≡ l.place;
  within : l.place < length l.self;
  cost : l.steps ≡ l.fn.steps + 2 * moves;
  passed : (fewer : ℕ) → fewer < moves → get_or l.self-inside.shortcuts (along l.self fewer l.v) None ≡ None;
  beyond : (more : ℕ) → 1 ≤ more → along l.self more l.v ≡ l.v → moves < more;
}

abbrev pub decreases-loop-target : goal.decreases-loop-target
decreases-loop-target g l = l.fn.steps + 35 - l.steps

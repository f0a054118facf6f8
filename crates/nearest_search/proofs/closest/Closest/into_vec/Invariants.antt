use Rattle.std.proofs.Common.{◌≡◌, map}
use Rattle.nearest_search.specs.Kept.{entry_near}
use Rattle.nearest_search.proofs.closest.Closest.into_vec.Given as goal

abbrev pub invariant-loop-dist2 : goal.invariant-loop-dist2
invariant-loop-dist2 l = l.nears.items ≡ map entry_near l.yielded

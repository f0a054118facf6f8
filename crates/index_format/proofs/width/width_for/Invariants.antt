use Rattle.std.proofs.Common.{ℕ, ◌≤◌, ◌<◌, ◌^◌}
use Rattle.index_format.proofs.width.width_for.Given as goal

abbrev pub invariant-loop-width : goal.invariant-loop-width
invariant-loop-width l = (k : ℕ) → 1 ≤ k → k < l.width → 2 ^ k < l.symbols

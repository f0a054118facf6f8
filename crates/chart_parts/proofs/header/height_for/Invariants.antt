use Rattle.std.proofs.Common.{ℕ, ◌≤◌, ◌<◌, ◌^◌}
use Rattle.chart_parts.proofs.header.height_for.Given as goal

abbrev pub invariant-loop-height : goal.invariant-loop-height
invariant-loop-height l = (k : ℕ) → 1 ≤ k → k < l.height → 2 ^ k < l.extent

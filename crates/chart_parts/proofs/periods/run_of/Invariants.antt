use Rattle.std.proofs.Common.{◌≡◌, ℕ, ◌-◌, ◌<◌, ◌≤◌, length}
use Rattle.std.specs.Prelude.{slice_index_or}
use Rattle.chart_parts.specs.PeriodWith.{no_head}
use Rattle.chart_parts.proofs.periods.run_of.Given as goal

abbrev pub invariant-loop-run : goal.invariant-loop-run
invariant-loop-run l = record {
  within : l.run ≤ length l.heads;
  same : (k : ℕ) → k < l.run → (slice_index_or l.heads k no_head).period ≡ l.number;
}

abbrev pub decreases-loop-run : goal.decreases-loop-run
decreases-loop-run l = length l.heads - l.run

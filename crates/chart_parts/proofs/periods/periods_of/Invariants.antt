use Rattle.std.proofs.Common.{◌≡◌, ◌≤◌, length, map}
use Rattle.std.specs.List.{range_with_len, zip}
use Rattle.chart_parts.specs.PeriodWith.{period_of_blocks}
use Rattle.chart_parts.proofs.PeriodLemmas.{IsBehind}
use Rattle.chart_parts.proofs.periods.periods_of.Given as goal

abbrev pub invariant-loop-number : goal.invariant-loop-number
invariant-loop-number l = record {
  within : l.start ≤ length l.heads;
  behind : IsBehind (zip l.heads l.lengths) l.number l.start;
  periods : l.periods.items ≡ map (period_of_blocks l.frame l.objects (zip l.heads l.lengths)) (range_with_len 0 l.number);
}

use Rattle.std.proofs.Common.{◌≡◌, map}
use Rattle.std.specs.List.{range_with_len}
use Rattle.chart_parts.specs.PeriodWith.{block_leaf}
use Rattle.chart_parts.proofs.leaves.leaves_by_object.Given as goal

abbrev pub invariant-loop-place : goal.invariant-loop-place
invariant-loop-place l = l.leaves.items ≡ map (block_leaf l.frame l.heads) (range_with_len 0 l.place)

use Rattle.std.proofs.Common.{◌≡◌, map}
use Rattle.std.specs.List.{range_with_len}
use Rattle.chart_parts.specs.PeriodWith.{is_end}
use Rattle.chart_parts.proofs.leaves.ends_of.Given as goal

abbrev pub invariant-loop-place : goal.invariant-loop-place
invariant-loop-place l = l.bits.items ≡ map (is_end (map (λ leaf. leaf.code) l.leaves)) (range_with_len 0 l.place)

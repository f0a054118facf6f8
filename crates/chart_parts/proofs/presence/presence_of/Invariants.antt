use Rattle.std.proofs.Common.{◌≡◌, take}
use Rattle.chart_parts.specs.PeriodWith.{presence_of}
use Rattle.chart_parts.proofs.presence.presence_of.Given as goal

abbrev pub invariant-loop-head : goal.invariant-loop-head
invariant-loop-head l = l.bits.items ≡ presence_of l.objects (take l.head-index l.heads)

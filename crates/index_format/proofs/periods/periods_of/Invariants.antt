use Rattle.index_format.specs.Reading.{period_sections_at}
use Rattle.index_format.proofs.ItemLemmas.{IsUnderWay}
use Rattle.index_format.proofs.periods.periods_of.Given as goal

abbrev pub invariant-loop-period : goal.invariant-loop-period
invariant-loop-period l = IsUnderWay (period_sections_at l.objects) l.count l.period l.periods.items l.rest l.bytes

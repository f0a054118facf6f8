use Rattle.index_format.specs.Fields.{short_at}
use Rattle.index_format.proofs.ItemLemmas.{IsUnderWay}
use Rattle.index_format.proofs.lists.shorts_of.Given as goal

abbrev pub invariant-loop-index : goal.invariant-loop-index
invariant-loop-index l =
    IsUnderWay (short_at l.place.section l.place.period) l.count l.index l.values.items l.rest l.bytes

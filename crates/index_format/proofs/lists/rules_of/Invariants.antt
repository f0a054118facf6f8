use Rattle.index_format.specs.Fields.{rule_at}
use Rattle.index_format.proofs.ItemLemmas.{IsUnderWay}
use Rattle.index_format.proofs.lists.rules_of.Given as goal

abbrev pub invariant-loop-index : goal.invariant-loop-index
invariant-loop-index l = IsUnderWay rule_at l.count l.index l.rules.items l.rest l.bytes

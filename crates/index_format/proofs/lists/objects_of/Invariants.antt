use Rattle.std.specs.Int.{w32}
use Rattle.track_types.specs.declared.flaw.Section.TheVariants.{Objects}
use Rattle.index_format.specs.Fields.{rising_at}
use Rattle.index_format.proofs.ItemLemmas.{IsUnderWay}
use Rattle.index_format.proofs.lists.objects_of.Given as goal

abbrev pub invariant-loop-index : goal.invariant-loop-index
invariant-loop-index l = IsUnderWay (rising_at w32 Objects) l.count l.index l.values.items l.rest l.bytes

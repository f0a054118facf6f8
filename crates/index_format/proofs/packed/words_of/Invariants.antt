use Rattle.std.proofs.Common.{length}
use Rattle.index_format.proofs.BitLemmas.{IsSpelt}
use Rattle.index_format.proofs.packed.words_of.Given as goal

abbrev pub invariant-loop-rest : goal.invariant-loop-rest
invariant-loop-rest l = IsSpelt l.words.items l.rest l.bytes

abbrev pub decreases-loop-rest : goal.decreases-loop-rest
decreases-loop-rest l = length l.rest

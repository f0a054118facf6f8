use Rattle.index_format.proofs.PackingLemmas.{IsUnpacking}
use Rattle.index_format.proofs.unpacking.unpacked.Given as goal

abbrev pub invariant-loop-number : goal.invariant-loop-number
invariant-loop-number l = IsUnpacking l.width l._number l.bits l.numbers.items l.waiting l.filled l.words

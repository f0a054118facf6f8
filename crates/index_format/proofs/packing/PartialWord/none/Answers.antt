use Rattle.index_format.proofs.PackingLemmas.{packing-starts}
use Rattle.index_format.proofs.packing.PartialWord.none.Goals as goal

pub returns : goal.returns
returns c = packing-starts

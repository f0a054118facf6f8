use Rattle.index_format.proofs.OutlineLemmas.{IsPutting}
use Rattle.index_format.proofs.outline.gaps.put_values.Given as goal

abbrev pub invariant-loop-value : goal.invariant-loop-value
invariant-loop-value l = IsPutting l.values l.value-index l.least l.initial.writer l.writer

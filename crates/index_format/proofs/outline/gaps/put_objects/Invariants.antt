use Rattle.index_format.proofs.OutlineLemmas.{IsPutting}
use Rattle.index_format.proofs.outline.gaps.put_objects.Given as goal

abbrev pub invariant-loop-object : goal.invariant-loop-object
invariant-loop-object l = IsPutting l.objects l.object-index l.least l.initial.writer l.writer

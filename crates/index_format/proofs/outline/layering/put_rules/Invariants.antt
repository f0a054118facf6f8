use Rattle.std.proofs.Common.{◌++◌, length}
use Rattle.index_format.specs.OutlineRules.{rules_bits}
use Rattle.index_format.proofs.PutLemmas.{IsPutting}
use Rattle.index_format.proofs.outline.layering.put_rules.Given as goal

abbrev pub invariant-loop-rest : goal.invariant-loop-rest
invariant-loop-rest l = IsPutting l.base l.top l.rest l.writer (l.fn.writer ++ rules_bits l.terminals l.rules)

abbrev pub decreases-loop-rest : goal.decreases-loop-rest
decreases-loop-rest l = length l.rest

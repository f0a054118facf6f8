use Rattle.std.proofs.Common.{◌++◌}
use Rattle.index_format.specs.LayerLists.{one_layer_bits}
use Rattle.index_format.proofs.PutLemmas.{IsPuttingLayer}
use Rattle.index_format.proofs.outline.layering.put_layer.Given as goal

abbrev pub invariant-loop-left : goal.invariant-loop-left
invariant-loop-left l = IsPuttingLayer l.base l.left-index l.layer l.before l.writer (l.fn.writer ++ one_layer_bits l.base l.layer)

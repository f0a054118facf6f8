use Rattle.std.proofs.Common.{◌≡◌, ◌+◌, drop}
use Rattle.std.specs.List.{prefix_len}
use Rattle.index_format.specs.OutlineRules.{are_under}
use Rattle.index_format.proofs.outline.layering.layer_len.Given as goal

abbrev pub invariant-loop-index : goal.invariant-loop-index
invariant-loop-index l = prefix_len (are_under l.top) l.rules ≡ l.index + prefix_len (are_under l.top) (drop l.index l.rules)

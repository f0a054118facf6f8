use Rattle.std.proofs.Common.{◌+◌}
use Rattle.std.specs.List.{sum_by}
use Rattle.repair_grammar.specs.Kept.{keys_in, Covers}
use Rattle.repair_grammar.specs.Pairs.{count_of}
use Rattle.repair_grammar.proofs.choosing.first_pair.Given as goal

-- the keys that are left say enough
abbrev pub invariant-loop-key : goal.invariant-loop-key
invariant-loop-key l = Covers (count_of l.pairs) (keys_in l.keys)

abbrev pub decreases-loop-key : goal.decreases-loop-key
decreases-loop-key l = sum_by (λ key. key.count + 1) (keys_in l.keys)

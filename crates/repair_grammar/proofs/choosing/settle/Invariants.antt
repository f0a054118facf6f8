use Rattle.std.proofs.Common.{◌≡◌, length}
use Rattle.repair_grammar.specs.Kept.{keys_in, CoversBut}
use Rattle.repair_grammar.specs.Pairs.{count_of}
use Rattle.repair_grammar.proofs.choosing.settle.Given as goal

-- the pairs that are left still want their keys
abbrev pub invariant-loop-pair : goal.invariant-loop-pair
invariant-loop-pair l = record {
  table : l.pairs.table ≡ l.fn.pairs.table;
  keys : CoversBut l.pairs.fresh.items (count_of l.fn.pairs) (keys_in l.keys);
}

abbrev pub decreases-loop-pair : goal.decreases-loop-pair
decreases-loop-pair l = length l.pairs.fresh.items

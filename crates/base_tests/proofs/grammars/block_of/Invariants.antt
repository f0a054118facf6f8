use Rattle.std.proofs.Common.{◌<◌, ◌≤◌, length}
use Rattle.std.specs.List.{AllByRecursion}
use Rattle.base_tests.proofs.grammars.block_of.Given as goal

abbrev pub invariant-loop-symbol : goal.invariant-loop-symbol
invariant-loop-symbol l = record {
  below : AllByRecursion (λ symbol. symbol < l.alphabet) l.block.items;
  few : length l.block.items ≤ l.symbol-index;
}

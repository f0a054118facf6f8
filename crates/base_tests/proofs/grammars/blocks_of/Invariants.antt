use Rattle.std.proofs.Common.{◌+◌, ◌≤◌, length}
use Rattle.std.specs.List.{sum_by}
use Rattle.track_types.specs.declared.limit.TheConstants.{MAX_SYMBOLS}
use Rattle.repair_grammar.specs.RePair.{AreBelow}
use Rattle.base_tests.proofs.grammars.blocks_of.Given as goal

abbrev pub invariant-loop-list : goal.invariant-loop-list
invariant-loop-list l = record {
  below : AreBelow l.alphabet l.blocks.items;
  few : sum_by length l.blocks.items + l.room ≤ MAX_SYMBOLS;
}

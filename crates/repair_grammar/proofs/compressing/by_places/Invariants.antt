use Rattle.std.proofs.Common.{◌≡◌, ℕ, ◌+◌, ◌*◌, ◌≤◌, List, length}
use Rattle.std.specs.List.{sum_by}
use Rattle.repair_grammar.specs.Blocks.{blocks_in}
use Rattle.repair_grammar.specs.RePair.{AreBelow, rounds, re_pair}
use Rattle.repair_grammar.specs.Kept.{Covers, keys_in}
use Rattle.repair_grammar.specs.Pairs.{count_of, places_of}
use Rattle.repair_grammar.specs.Threads.{live, marked_row, IsCounted}
use Rattle.repair_grammar.specs.Joins.{IsSymbolRow}
use Rattle.repair_grammar.proofs.compressing.by_places.Given as goal

-- the row is that of some blocks, and the rounds that are left of them lead to the end
abbrev pub invariant-rounds : goal.invariant-rounds
invariant-rounds l = record {
  now : List (List ℕ);
  of_blocks : live l.row.symbols.items ≡ marked_row now;
  row : IsSymbolRow l.row;
  counted : IsCounted l.row.symbols.items (count_of l.pairs) (places_of l.pairs);
  keys : Covers (count_of l.pairs) (keys_in l.keys);
  below : AreBelow (l.alphabet + length l.rules.items) now;
  few : 2 * length l.rules.items + sum_by length now ≤ sum_by length (blocks_in l.fn.blocks);
  left : rounds (sum_by length now) l.alphabet (record { rules = l.rules.items; blocks = now })
      ≡ re_pair l.alphabet (blocks_in l.fn.blocks);
}

abbrev pub decreases-rounds : goal.decreases-rounds
decreases-rounds l = length (live l.row.symbols.items)

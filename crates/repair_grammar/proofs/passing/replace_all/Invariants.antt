use Rattle.std.proofs.Common.{ℕ, drop}
use Rattle.repair_grammar.specs.Pairs.{count_of, places_of, HasCome}
use Rattle.repair_grammar.specs.Threads.{IsCounted, IsPassing, IsRun}
use Rattle.repair_grammar.specs.Joins.{IsSymbolRow}
use Rattle.repair_grammar.proofs.passing.replace_all.Given as goal

-- all before some place is done
abbrev pub invariant-places : goal.invariant-places
invariant-places l = record {
  done : ℕ;
  row : IsSymbolRow l.row;
  counted : IsCounted l.row.symbols.items (count_of l.pairs) (places_of l.pairs);
  passing : IsPassing l.fn.row.symbols.items l.row.symbols.items l.pair l.symbol
      (drop l.place-index l.places) done;
  run : IsRun l.row.symbols.items l.symbol done l.odd;
  come : HasCome l.fn.pairs l.pairs;
}

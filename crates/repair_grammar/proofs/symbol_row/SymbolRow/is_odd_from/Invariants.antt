use Rattle.std.proofs.Common.{◌≡◌, ◌-◌, ◌<◌, length, drop}
use Rattle.repair_grammar.specs.Runs.{begins_odd}
use Rattle.repair_grammar.specs.Threads.{at, live, turned_by}
use Rattle.repair_grammar.proofs.symbol_row.SymbolRow.is_odd_from.Given as goal
use Rattle.repair_grammar.specs.declared.symbol_row.TheConstants.{GAP}

-- what was passed, turned by what is left
abbrev pub invariant-run : goal.invariant-run
invariant-run l = record {
  stands : at l.self.symbols.items l.here < GAP;
  within : l.here < length l.self.symbols.items;
  left : begins_odd l.symbol (live (drop l.place l.self.symbols.items))
      ≡ turned_by l.odd (begins_odd l.symbol (live (drop l.here l.self.symbols.items)));
}

abbrev pub decreases-run : goal.decreases-run
decreases-run l = length l.self.symbols.items - l.here

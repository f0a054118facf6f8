use Rattle.std.proofs.Common.{◌≡◌, ◌+◌, ◌<◌, false, length, take}
use Rattle.repair_grammar.specs.Runs.{ends_odd}
use Rattle.repair_grammar.specs.Threads.{at, live, turned_by}
use Rattle.repair_grammar.proofs.symbol_row.SymbolRow.is_odd_before.Given as goal
use Rattle.repair_grammar.specs.declared.symbol_row.TheConstants.{GAP}

-- what was passed, turned by what is left
abbrev pub invariant-run : goal.invariant-run
invariant-run l = record {
  stands : at l.self.symbols.items l.before < GAP;
  within : l.before < length l.self.symbols.items;
  left : ends_odd l.symbol false (live (take l.place l.self.symbols.items))
      ≡ turned_by l.odd (ends_odd l.symbol false (live (take (l.before + 1) l.self.symbols.items)));
}

abbrev pub decreases-run : goal.decreases-run
decreases-run l = l.before

use Rattle.std.proofs.Common.{◌≡◌, ℕ, ◌+◌, ◌-◌, ◌<◌, length, get_or}
use Rattle.repair_grammar.proofs.symbol_row.SymbolRow.new.Given as goal

-- the threads so far
abbrev pub invariant-places : goal.invariant-places
invariant-places l = record {
  nexts : length l.next.items ≡ l.place;
  previouses : length l.previous.items ≡ l.place;
  on : (k : ℕ) → k < l.place → get_or l.next.items k 0 ≡ k + 1;
  back : (k : ℕ) → k < l.place → get_or l.previous.items k 0 ≡ k - 1;
}

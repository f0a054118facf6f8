use Rattle.std.proofs.Common.{◌≡◌, ◌++◌, ◌≤◌, drop}
use Rattle.repair_grammar.proofs.RowLemmas.{lengths_after}
use Rattle.repair_grammar.proofs.rows.lengths_in.Given as goal

-- the lengths so far, and those of the rest
abbrev pub invariant-symbols : goal.invariant-symbols
invariant-symbols l = record {
  all : l.lengths.items ++ lengths_after l.len (drop l.symbol-index l.rest) ≡ lengths_after 0 l.rest;
  short : l.len ≤ l.symbol-index;
}

use Rattle.std.proofs.Common.{◌≡◌, ◌++◌, ◌≤◌, drop, length}
use Rattle.std.specs.List.{sum}
use Rattle.repair_grammar.specs.Blocks.{blocks_in, split_by}
use Rattle.repair_grammar.specs.Threads.{marked_row}
use Rattle.repair_grammar.proofs.rows.row.Given as goal

-- the row so far and that of the blocks that are left
abbrev pub invariant-each : goal.invariant-each
invariant-each l = record {
  row : l.row.items ++ marked_row (split_by (drop l.len-index l.lengths) l.rest) ≡ marked_row (blocks_in l.blocks);
  room : sum (drop l.len-index l.lengths) ≤ length l.rest;
}

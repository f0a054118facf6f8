use Rattle.std.proofs.Common.{◌≡◌, ◌++◌, ◌≤◌, drop, length}
use Rattle.std.specs.List.{sum}
use Rattle.repair_grammar.specs.Blocks.{blocks_in, split_by}
use Rattle.repair_grammar.proofs.blocks.blocks_in.Given as goal

-- the blocks so far, and those that are left
abbrev pub invariant-each : goal.invariant-each
invariant-each l = record {
  blocks : l.blocks.items ++ split_by (drop l.len-index l.lengths) l.rest ≡ blocks_in l.joined;
  room : sum (drop l.len-index l.lengths) ≤ length l.rest;
}

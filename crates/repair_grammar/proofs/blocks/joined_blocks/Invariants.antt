use Rattle.std.proofs.Common.{◌≡◌, length, map, take}
use Rattle.std.specs.List.{flat_map}
use Rattle.repair_grammar.proofs.blocks.joined_blocks.Given as goal

abbrev pub invariant-loop-block : goal.invariant-loop-block
invariant-loop-block l = record {
  symbols : l.symbols.items ≡ flat_map (λ block. block) (take l.block-index l.blocks);
  lengths : l.lengths.items ≡ map length (take l.block-index l.blocks);
}

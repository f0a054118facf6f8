use Rattle.std.proofs.Common.{◌≡◌}
use Rattle.std.specs.List.{flat_map, range_with_len}
use Rattle.snapshots.specs.Parts.{snapshot_in, start_in}
use Rattle.outline_parts.specs.Told.{placed_blocks_of}
use Rattle.outline_parts.proofs.telling.told_blocks.Given as goal

abbrev pub invariant-loop-number : goal.invariant-loop-number
invariant-loop-number l = record {
  start : l.start ≡ start_in l.parts l.number;
  placed : l.placed.items ≡ flat_map (λ number. placed_blocks_of (snapshot_in l.parts number)) (range_with_len 0 l.number);
}

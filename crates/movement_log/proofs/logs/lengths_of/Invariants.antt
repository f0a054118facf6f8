use Rattle.std.proofs.Common.{◌≡◌, map, take}
use Rattle.movement_log.specs.Blocks.{anchor_in, log_length_of}
use Rattle.movement_log.proofs.logs.lengths_of.Given as goal

abbrev pub invariant-loop-block : goal.invariant-loop-block
invariant-loop-block l =
    l.lengths.items ≡ map (λ block. log_length_of l.chart (anchor_in l.chart.rows block)) (take l.block-index l.blocks)

use Rattle.std.proofs.Common.{◌≡◌, take}
use Rattle.std.specs.List.{flat_map}
use Rattle.movement_log.specs.Blocks.{anchor_in}
use Rattle.movement_log.specs.Logs.{values_after}
use Rattle.movement_log.proofs.logs.values_of.Given as goal

abbrev pub invariant-loop-block : goal.invariant-loop-block
invariant-loop-block l =
    l.values.items ≡ flat_map (λ block. values_after l.chart (anchor_in l.chart.rows block)) (take l.block-index l.blocks)

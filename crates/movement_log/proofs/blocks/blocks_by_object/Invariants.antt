use Rattle.std.proofs.Common.{◌≡◌, ◌-◌, ◌<◌}
use Rattle.movement_log.specs.Blocks.{object_place, period_end_of, row_at}
use Rattle.movement_log.proofs.BlockLemmas.{AreFirst}
use Rattle.movement_log.proofs.blocks.blocks_by_object.Given as goal

abbrev pub invariant-loop-at : goal.invariant-loop-at
invariant-loop-at l = record {
  blocks : AreFirst l.chart l.at l.blocks.items;
  index : l.index ≡ object_place l.chart.rows (l.at - 1);
  end : 0 < l.at → l.period_end ≡ period_end_of l.chart (row_at l.chart.rows (l.at - 1));
}

use Rattle.std.proofs.Common.{◌≡◌, ◌+◌, ◌++◌, map, sum, take}
use Rattle.std.specs.List.{filter_map, range_with_len}
use Rattle.bit_rank.specs.Bits.{rank_of}
use Rattle.snapshots.specs.View.{block_of}
use Rattle.outline_parts.specs.Told.{period_view, placed_block}
use Rattle.outline_parts.proofs.telling.push_period.Given as goal

abbrev pub invariant-loop-index : goal.invariant-loop-index
invariant-loop-index l = record {
  rank : l.next.rank ≡ rank_of l.period.present l.index;
  start : l.next.start ≡ l.at.start + sum (take l.next.rank l.period.lengths);
  placed : l.placed.items ≡ l.fn.placed.items
      ++ map (placed_block l.at.frame l.at.number) (filter_map (block_of (period_view l.at.frame l.at.number l.at.start l.period)) (range_with_len 0 l.index));
}

use Rattle.std.proofs.Common.{◌≡◌, ◌+◌, ◌*◌, ◌^◌, ◌≤◌, length, None}
use Rattle.std.specs.Prelude.{All}
use Rattle.track_types.specs.Row.{IsAscending}
use Rattle.gridding.specs.BlockRange.{IsInSpan}
use Rattle.gridding.proofs.SymbolLemmas.{terminals}
use Rattle.gridding.proofs.counts.symbol_count.Given as goal

abbrev pub invariant-loop-left : goal.invariant-loop-left
invariant-loop-left l = record {
  so_far : l.count + terminals l.timeline.first l.timeline.period l.timeline.span None l.left
      ≡ terminals l.timeline.first l.timeline.period l.timeline.span None l.rows;
  few : l.count + 2 ^ 22 * length l.left ≤ 2 ^ 22 * length l.rows;
  ascending : IsAscending l.left;
  in_span : All (IsInSpan l.timeline.first l.timeline.span) l.left;
}

abbrev pub decreases-loop-left : goal.decreases-loop-left
decreases-loop-left l = length l.left

use Rattle.std.proofs.Common.{◌+◌, ◌-◌, ◌*◌, ◌≤◌}
use Rattle.bit_rank.specs.Cost.{window_reads}
use Rattle.k2_tree.specs.Listing.{IsLevelOf}
use Rattle.k2_tree.specs.Squares.{squares_above}
use Rattle.k2_tree.specs.Tree.{codes_in}
use Rattle.k2_tree.specs.Widths.{widths_of, widths_under}
use Rattle.k2_tree.proofs.listing.spots_in.Given as goal

abbrev pub invariant-loop-level : goal.invariant-loop-level
invariant-loop-level g l = record {
  level : IsLevelOf l.height l.wide l.bits l.level.spots.items l.level.start l.level.below;
  reads : l.steps + window_reads * squares_above (widths_under (l.height - 2 * l.wide) l.level.below) 0
      (codes_in (widths_of l.height l.wide) l.bits)
      ≤ l.fn.steps + window_reads * squares_above (widths_of l.height l.wide) 0
      (codes_in (widths_of l.height l.wide) l.bits);
}

abbrev pub decreases-loop-level : goal.decreases-loop-level
decreases-loop-level g l = l.level.below

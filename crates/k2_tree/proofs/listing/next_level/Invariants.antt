use Rattle.std.proofs.Common.{◌≡◌, ◌+◌, ◌*◌, ◌≤◌}
use Rattle.bit_rank.specs.Cost.{window_reads}
use Rattle.k2_tree.proofs.ListingLemmas.{spots_told, width_of}
use Rattle.k2_tree.specs.Widths.{fan_of}
use Rattle.k2_tree.proofs.listing.next_level.Given as goal

abbrev pub invariant-loop-spot : goal.invariant-loop-spot
invariant-loop-spot g l = record {
  spots : l.spots.items ≡ spots_told l.height l.wide l.bits l.fn.from.below l.spot-index;
  start : l.start ≡ l.fn.from.start + fan_of (width_of l.height l.wide l.fn.from.below) * l.spot-index;
  reads : l.steps ≤ l.fn.steps + window_reads * l.spot-index;
}

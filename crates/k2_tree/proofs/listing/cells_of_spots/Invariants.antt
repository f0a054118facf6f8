use Rattle.std.proofs.Common.{◌≡◌, map, take}
use Rattle.k2_tree.specs.Listing.{spot_cell}
use Rattle.k2_tree.proofs.listing.cells_of_spots.Given as goal

abbrev pub invariant-loop-spot : goal.invariant-loop-spot
invariant-loop-spot l = l.cells.items ≡ map (spot_cell l.base) (take l.spot-index l.fn.spots)

use Rattle.std.proofs.Common.{◌≡◌, map, take}
use Rattle.k2_tree.specs.Listing.{spot_code}
use Rattle.k2_tree.proofs.listing.codes_of_spots.Given as goal

abbrev pub invariant-loop-spot : goal.invariant-loop-spot
invariant-loop-spot l = l.codes.items ≡ map spot_code (take l.spot-index l.fn.spots)

use Rattle.std.proofs.Common.{◌≡◌, ◌^◌, ◌<◌, ◌++◌, length, map}
use Rattle.k2_tree.specs.Digits.{digits_of}
use Rattle.k2_tree.specs.Listing.{child_spot}
use Rattle.k2_tree.specs.Widths.{fan_of}
use Rattle.k2_tree.proofs.listing.push_children.Given as goal

abbrev pub invariant-loop-left : goal.invariant-loop-left
invariant-loop-left l = record {
  few : l.left < 2 ^ fan_of l.width;
  spots : l.spots.items ++ map (child_spot l.width l.spot) (digits_of (fan_of l.width) l.left)
      ≡ l.fn.spots.items ++ map (child_spot l.width l.spot) (digits_of (fan_of l.width) l.digits);
}

abbrev pub decreases-loop-left : goal.decreases-loop-left
decreases-loop-left l = length (digits_of (fan_of l.width) l.left)

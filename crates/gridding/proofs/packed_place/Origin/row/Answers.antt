use Rattle.std.proofs.Common.{rules}
use Rattle.gridding.specs.PackedPlace.{packed_cell}
use Rattle.gridding.proofs.packed_place.Origin.row.Goals as goal

pub returns : goal.returns
unfolding packed_cell
returns c = search rules

use Rattle.std.proofs.Common.{refl}
use Rattle.gridding.specs.PackedPlace.{elapsed_of}
use Rattle.gridding.proofs.packed_place.PackedPlace.elapsed.Goals as goal

pub returns-clause-exact : goal.returns-clause-exact
unfolding elapsed_of
returns-clause-exact c = refl

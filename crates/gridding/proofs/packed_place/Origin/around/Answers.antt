use Rattle.std.proofs.Common.{arith}
use Rattle.std.proofs.lemmas.Int.{ints}
use Rattle.gridding.proofs.packed_place.Origin.around.Goals as goal

pub returns : goal.returns
returns c = record {
  instant = (omega (arith, ints), omega (arith, ints));
  x = (omega (arith, ints), omega (arith, ints));
  y = (omega (arith, ints), omega (arith, ints));
}

use Rattle.std.proofs.Common.{refl}
use Rattle.bit_stream.specs.Numbers.{lg}
use Rattle.bit_stream.proofs.writer.digits_of.Goals as goal

pub returns-clause-exact : goal.returns-clause-exact
unfolding lg
returns-clause-exact c = refl

use Rattle.std.proofs.Common.{arith}
use Rattle.std.proofs.Math.Nat.{le-div_iff_mul-le}
use Rattle.index_format.proofs.room.with_room.Goals as goal

pub returns-clause-room : goal.returns-clause-room
returns-clause-room g c =
    (le-div_iff_mul-le c.requires).0 (omega (arith, c.in_ok-values.ensures.exact, c.min-room.ensures))

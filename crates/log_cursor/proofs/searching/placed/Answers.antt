use Rattle.std.proofs.Common.{arith}
use Rattle.std.proofs.lemmas.Int.{ints}
use Rattle.log_cursor.proofs.searching.placed.Goals as goal

pub moved-requires : goal.moved-requires
moved-requires c =
    let near = c.requires in
    record {
      x1 = record { low = omega (arith, ints, near.x1.low); high = omega (arith, ints, near.x1.high) };
      y1 = record { low = omega (arith, ints, near.y1.low); high = omega (arith, ints, near.y1.high) };
      x2 = record { low = omega (arith, ints, near.x2.low); high = omega (arith, ints, near.x2.high) };
      y2 = record { low = omega (arith, ints, near.y2.low); high = omega (arith, ints, near.y2.high) };
    }

pub returns-clause-within : goal.returns-clause-within
returns-clause-within c =
    let near = c.requires in
    rw c.moved.ensures (record {
      x1 = record { low = omega (arith, ints, near.x1.low); high = omega (arith, ints, near.x1.high) };
      y1 = record { low = omega (arith, ints, near.y1.low); high = omega (arith, ints, near.y1.high) };
      x2 = record { low = omega (arith, ints, near.x2.low); high = omega (arith, ints, near.x2.high) };
      y2 = record { low = omega (arith, ints, near.y2.low); high = omega (arith, ints, near.y2.high) };
    })

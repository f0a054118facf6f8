use Rattle.std.proofs.Common.{arith}
use Rattle.std.proofs.lemmas.Int.{ints}
use Rattle.rule_store.proofs.packed_box.PackedBox.unpack.Goals as goal

pub returns-clause-within : goal.returns-clause-within
returns-clause-within c = record {
  x1 = record { low = omega (arith, ints); high = omega (arith, ints) };
  y1 = record { low = omega (arith, ints); high = omega (arith, ints) };
  x2 = record { low = omega (arith, ints); high = omega (arith, ints) };
  y2 = record { low = omega (arith, ints); high = omega (arith, ints) };
}

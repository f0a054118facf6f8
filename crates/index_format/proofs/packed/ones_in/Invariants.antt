use Rattle.std.proofs.Common.{◌≡◌, ◌*◌, take}
use Rattle.packed_bits.specs.Bits.{ones_of}
use Rattle.index_format.proofs.packed.ones_in.Given as goal

abbrev pub invariant-loop-i : goal.invariant-loop-i
invariant-loop-i l = l.ones ≡ ones_of (take (64 * l.i) l.bits)

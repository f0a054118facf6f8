use Rattle.std.proofs.Common.{◌≡◌, take}
use Rattle.packed_bits.specs.Bits.{ones_of}
use Rattle.part_tests.proofs.period_blocks.count_ones.Given as goal

abbrev pub invariant-loop-place : goal.invariant-loop-place
invariant-loop-place l = l.ones ≡ ones_of (take l.place l.bits)

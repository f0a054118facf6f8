use Rattle.std.proofs.Common.{◌≡◌, take}
use Rattle.packed_bits.specs.Bits.{number_of}
use Rattle.bit_stream.specs.Bytes.{bits_in}
use Rattle.bit_stream.proofs.word.short_word.Given as goal

abbrev pub invariant-loop-i : goal.invariant-loop-i
invariant-loop-i l = l.word ≡ number_of (bits_in (take l.i l.bytes))

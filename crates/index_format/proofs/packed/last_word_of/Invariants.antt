use Rattle.std.proofs.Common.{◌≡◌, take}
use Rattle.packed_bits.specs.Bits.{number_of}
use Rattle.index_format.specs.Spelling.{bits_in}
use Rattle.index_format.proofs.packed.last_word_of.Given as goal

abbrev pub invariant-loop-i : goal.invariant-loop-i
invariant-loop-i l = l.word ≡ number_of (bits_in (take l.i l.bytes))

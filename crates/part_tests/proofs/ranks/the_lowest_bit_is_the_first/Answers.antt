use Rattle.std.proofs.Common.{[], ◌∷◌, refl}
use Rattle.packed_bits.specs.Bits.{ones_of}
use Rattle.packed_bits.specs.Words.{bits_of, low_bits, IsPacked}
use Rattle.part_tests.proofs.ranks.the_lowest_bit_is_the_first.Goals as goal

pub from_words-requires : goal.from_words-requires
unfolding bits_of low_bits ones_of
from_words-requires g c =
    let packed : IsPacked (10 ∷ []) 4 = record { fewest = refl; spare = refl } in
    rw c.in_ok-vec.ensures.items packed

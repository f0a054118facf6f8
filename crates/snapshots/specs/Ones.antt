-- The places of the ones of bits.
use Rattle.std.specs.Prelude.{ℕ, ◌+◌, Bool, List, map}
use Rattle.std.specs.List.{range_with_len}
use Rattle.packed_bits.specs.Bits.{ones_of}
use Rattle.bit_rank.specs.Bits.{select_of}

-- the places of the first ones, so many of them
abbrev pub first_ones : List Bool → ℕ → List ℕ
first_ones bits count = map (λ rank. select_of bits (rank + 1)) (range_with_len 0 count)

-- the places of all ones, ascending
abbrev pub places_of_ones : List Bool → List ℕ
places_of_ones bits = first_ones bits (ones_of bits)

-- The definitions, run on worked numbers and bits.
use Rattle.std.proofs.Common.{◌≡◌, ℕ, zero, suc, ◌-◌, ◌^◌, Bool, true, false, List, [], ◌∷◌, ◌++◌, map, take, replicate, Ok, Err, refl}
use lib.Count.{count_leading_zeros}
use Rattle.packed_bits.specs.Bits.{number_of}
use Rattle.packed_bits.specs.Words.{low_bits}
use Rattle.bit_stream.specs.declared.fault.BitFault.TheVariants.{Short, Large}
use Rattle.bit_stream.specs.Bytes.{bits_in, bytes_filled, bit_bytes}
use Rattle.bit_stream.specs.Numbers.{lg, delta_bits, number_bits, low_in, zeros_in, digits_in, number_in}

-- bits as they are read
abbrev bits : List ℕ → List Bool
bits [] = []
bits (zero ∷ rest) = false ∷ bits rest
bits (suc one ∷ rest) = true ∷ bits rest

digits : map lg (1 ∷ 2 ∷ 3 ∷ 4 ∷ 255 ∷ 256 ∷ []) ≡ 1 ∷ 2 ∷ 2 ∷ 3 ∷ 8 ∷ 9 ∷ []
unfolding lg count_leading_zeros
digits = refl

small_numbers : map number_bits (0 ∷ 1 ∷ 2 ∷ 3 ∷ 6 ∷ [])
    ≡ bits (1 ∷ []) ∷ bits (0 ∷ 1 ∷ 0 ∷ 0 ∷ []) ∷ bits (0 ∷ 1 ∷ 0 ∷ 1 ∷ [])
    ∷ bits (0 ∷ 1 ∷ 1 ∷ 0 ∷ 0 ∷ []) ∷ bits (0 ∷ 1 ∷ 1 ∷ 1 ∷ 1 ∷ []) ∷ []
unfolding number_bits delta_bits lg count_leading_zeros low_bits
small_numbers = refl

numbers : map number_bits (7 ∷ 14 ∷ 15 ∷ [])
    ≡ bits (0 ∷ 0 ∷ 1 ∷ 0 ∷ 0 ∷ 0 ∷ 0 ∷ 0 ∷ []) ∷ bits (0 ∷ 0 ∷ 1 ∷ 0 ∷ 0 ∷ 1 ∷ 1 ∷ 1 ∷ [])
    ∷ bits (0 ∷ 0 ∷ 1 ∷ 1 ∷ 0 ∷ 0 ∷ 0 ∷ 0 ∷ 0 ∷ []) ∷ []
unfolding number_bits delta_bits lg count_leading_zeros low_bits
numbers = refl

thirty_two_digits : number_bits (2 ^ 32 - 1) ≡ bits (0 ∷ 0 ∷ 0 ∷ 0 ∷ 0 ∷ 1 ∷ 1 ∷ 0 ∷ 0 ∷ 0 ∷ 0 ∷ []) ++ replicate 32 false
unfolding number_bits delta_bits lg count_leading_zeros low_bits
thirty_two_digits = refl

the_greatest : number_bits (2 ^ 56 - 2) ≡ bits (0 ∷ 0 ∷ 0 ∷ 0 ∷ 0 ∷ 1 ∷ 0 ∷ 0 ∷ 0 ∷ 1 ∷ 1 ∷ []) ++ replicate 55 true
unfolding number_bits delta_bits lg count_leading_zeros low_bits
the_greatest = refl

are_read : map (λ value. number_in (number_bits value ++ false ∷ true ∷ [])) (0 ∷ 6 ∷ 15 ∷ (2 ^ 32 - 1) ∷ (2 ^ 56 - 2) ∷ [])
    ≡ map (λ value. Ok (value, false ∷ true ∷ [])) (0 ∷ 6 ∷ 15 ∷ (2 ^ 32 - 1) ∷ (2 ^ 56 - 2) ∷ [])
unfolding number_bits delta_bits lg count_leading_zeros low_bits number_in zeros_in digits_in low_in number_of
are_read = refl

zeros_alone : (number_in (replicate 5 false) ≡ Err Short) × (number_in (replicate 6 false) ≡ Err Large)
unfolding number_in zeros_in digits_in low_in number_of
zeros_alone = (refl, refl)

-- 57 digits are too many though none of them is there, and 56 are not
digits_alone : (number_in (bits (0 ∷ 0 ∷ 0 ∷ 0 ∷ 0 ∷ 1 ∷ 1 ∷ 0 ∷ 0 ∷ 1 ∷ 1 ∷ [])) ≡ Err Large)
    × (number_in (bits (0 ∷ 0 ∷ 0 ∷ 0 ∷ 0 ∷ 1 ∷ 0 ∷ 0 ∷ 0 ∷ 1 ∷ 1 ∷ [])) ≡ Err Short)
unfolding number_in zeros_in digits_in low_in number_of
digits_alone = (refl, refl)

cut : (number_in [] ≡ Err Short) × (number_in (take 7 (number_bits 7)) ≡ Err Short) × (low_in 3 (true ∷ false ∷ []) ≡ Err Short)
unfolding number_bits delta_bits lg count_leading_zeros low_bits number_in zeros_in digits_in low_in number_of
cut = (refl, refl, refl)

widths : (low_in 3 (bits (0 ∷ 1 ∷ 1 ∷ 1 ∷ [])) ≡ Ok (6, true ∷ [])) × (low_in 0 [] ≡ Ok (0, []))
unfolding low_in number_of
widths = (refl, refl)

bytes : (bits_in (4 ∷ 1 ∷ []) ≡ bits (0 ∷ 0 ∷ 1 ∷ 0 ∷ 0 ∷ 0 ∷ 0 ∷ 0 ∷ 1 ∷ 0 ∷ 0 ∷ 0 ∷ 0 ∷ 0 ∷ 0 ∷ 0 ∷ []))
    × (bit_bytes (bits (0 ∷ 0 ∷ 1 ∷ 0 ∷ 0 ∷ 0 ∷ 0 ∷ 0 ∷ 1 ∷ [])) ≡ 4 ∷ 1 ∷ [])
unfolding bits_in low_bits bit_bytes bytes_filled number_of
bytes = (refl, refl)

-- Numbers in a string of bits: of a known width, or in Elias's delta code of the number and 1, which says itself how long it is.
use Rattle.std.specs.Prelude.{ℕ, zero, suc, ◌+◌, ◌-◌, ◌^◌, Bool, true, false, nat_lt, List, [], ◌∷◌, ◌++◌, length, take, drop, replicate, Result, Ok, Err, if◌then◌else◌}
use Rattle.std.specs.Int.{w64, leading_zeros}
use Rattle.packed_bits.specs.Bits.{number_of}
use Rattle.packed_bits.specs.Words.{low_bits}
use Rattle.bit_stream.specs.declared.fault.BitFault.{BitFault}
use Rattle.bit_stream.specs.declared.fault.BitFault.TheVariants.{Short, Large}

-- how many binary digits a number from 1 on has, which is below 2^64
unfoldable pub lg : ℕ → ℕ
lg number = 64 - leading_zeros w64 number

-- a number from 1 on: as many bits 0 as the number of its digits has digits after the first, a bit 1, those digits, and its own after the first
unfoldable pub delta_bits : ℕ → List Bool
delta_bits number =
    replicate (lg (lg number) - 1) false ++ true ∷ low_bits (lg (lg number) - 1) (lg number) ++ low_bits (lg number - 1) number

-- a number from 0 to 2^56 - 2
unfoldable pub number_bits : ℕ → List Bool
number_bits value = delta_bits (value + 1)

-- what is taken from the front, and the bits after it; or why nothing is
abbrev pub TakenBits : Type 0 → Type 0
TakenBits A = Result (A × List Bool) BitFault

infixl 10 ◌>>=◌
-- the first fault ends the reading
abbrev pub ◌>>=◌ : {A B E : Type 0} → Result A E → (A → Result B E) → Result B E
(Ok x) >>= f = f x
(Err e) >>= f = Err e

-- the number that so many bits spell, lowest first
unfoldable pub low_in : ℕ → List Bool → TakenBits ℕ
low_in width bits = if nat_lt (length bits) width then Err Short else Ok (number_of (take width bits), drop width bits)

-- the bits 0 before a bit 1, so many at most, and that one
unfoldable pub zeros_in : ℕ → List Bool → TakenBits ℕ
zeros_in most [] = Err Short
zeros_in most (true ∷ bits) = Ok (0, bits)
zeros_in zero (false ∷ bits) = Err Large
zeros_in (suc most) (false ∷ bits) = do
  zeros ← zeros_in most bits
  Ok (suc zeros.0, zeros.1)

-- a number of so many digits, 56 at most, whose digits after the first come; less 1
unfoldable pub digits_in : ℕ → List Bool → TakenBits ℕ
digits_in digits bits = if nat_lt 56 digits then Err Large else do
  low ← low_in (digits - 1) bits
  Ok (2 ^ (digits - 1) + low.0 - 1, low.1)

-- a number that says itself how long it is
unfoldable pub number_in : List Bool → TakenBits ℕ
number_in bits = do
  zeros ← zeros_in 5 bits
  low ← low_in zeros.0 zeros.1
  digits_in (2 ^ zeros.0 + low.0) low.1

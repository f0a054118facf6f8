-- Bits that mark the last object of each cell.
use Rattle.std.specs.Prelude.{◌≡◌, ℕ, ◌-◌, ◌<◌, Bool, true, List, length, slice_get, Some}
use Rattle.packed_bits.specs.Bits.{ones_of}

-- the last bit, if there is one, is a one, and there are as many ones as numbers
pub record AreMarks (bits : List Bool) (codes : List ℕ) : Type 0 where
  pub last : 0 < length bits → slice_get bits (length bits - 1) ≡ Some true
  pub many : ones_of bits ≡ length codes

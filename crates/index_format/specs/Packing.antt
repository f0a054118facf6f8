-- Bits on their way into bytes.
use Rattle.std.specs.Prelude.{◌≡◌, ℕ, ◌+◌, ◌*◌, ◌<◌, Bool, List, ◌++◌, length, drop}
use Rattle.packed_bits.specs.Bits.{number_of}
use Rattle.index_format.specs.Spelling.{bytes_filled}

-- after what stood there before, the bits' whole words are written, and the number of the others waits
pub record IsPacking (before : List ℕ) (bits : List Bool) (out : List ℕ) (waiting filled : ℕ) : Type 0 where
  pub words : ℕ
  pub long : length bits ≡ 64 * words + filled
  pub low : filled < 64
  pub written : out ≡ before ++ bytes_filled (8 * words) bits
  pub left : waiting ≡ number_of (drop (64 * words) bits)

-- Bits in bytes, from the lowest of a byte.
use Rattle.std.specs.Prelude.{ℕ, zero, suc, ◌+◌, ◌*◌, ◌/◌, ◌^◌, ◌<◌, ◌≤◌, Bool, List, [], ◌∷◌, length, take, drop}
use Rattle.std.specs.List.{flat_map}
use Rattle.packed_bits.specs.Bits.{number_of}
use Rattle.packed_bits.specs.Words.{low_bits}

-- all bits of the bytes, each byte's lowest first
unfoldable pub bits_in : List ℕ → List Bool
bits_in bytes = flat_map (low_bits 8) bytes

-- as many bytes of the bits, eight a byte; past the last bit all is 0
unfoldable pub bytes_filled : ℕ → List Bool → List ℕ
bytes_filled zero bits = []
bytes_filled (suc n) bits = number_of (take 8 bits) ∷ bytes_filled n (drop 8 bits)

-- how many bytes that many bits take
abbrev pub bytes_for : ℕ → ℕ
bytes_for bits = (bits + 7) / 8

-- the bytes of a list of bits
unfoldable pub bit_bytes : List Bool → List ℕ
bit_bytes bits = bytes_filled (bytes_for (length bits)) bits

-- fewer than eight bits of the first byte were used, and none where there is no byte
pub record IsInside (used : ℕ) (bytes : List ℕ) : Type 0 where
  pub within : used < 8
  pub there : used ≤ 8 * length bytes

-- so many bits, fewer than a word has, spell the number
pub record IsWaiting (waiting filled : ℕ) : Type 0 where
  pub low : filled < 64
  pub small : waiting < 2 ^ filled

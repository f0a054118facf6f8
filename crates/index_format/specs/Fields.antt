-- Reading from the front: what is taken and the bytes after it, or the first flaw that is met.
use Rattle.std.specs.Prelude.{ℕ, zero, suc, ◌-◌, ◌*◌, Bool, ◌||◌, List, [], ◌∷◌, ◌++◌, length, take, drop, Result, Ok, Err, nat_lt, ◌==◌, if◌then◌else◌, slice_index}
use Rattle.std.specs.Int.{Width, w32, byte_len, from_le_bytes}
use Rattle.packed_bits.specs.Bits.{number_of, ones_of}
use Rattle.track_types.specs.Spelling.{packs_symbols}
use Rattle.track_types.specs.declared.flaw.Flaw.{Flaw}
use Rattle.track_types.specs.declared.flaw.Section.{Section}
use Rattle.track_types.specs.declared.flaw.Kind.{Kind}
use Rattle.track_types.specs.declared.flaw.Kind.TheVariants.{Short, Order, Pad}
use Rattle.track_types.specs.declared.flaw.Section.TheVariants.{Rules, Log}
use Rattle.track_types.specs.declared.spelling.Spelling.{Spelling}
use Rattle.index_format.specs.Spelling.{bits_in, bytes_for}

-- what is taken from the front, and the bytes after it; or a flaw
abbrev pub Taken : Type 0 → Type 0
Taken A = Result (A × List ℕ) Flaw

infixl 10 ◌>>=◌
-- the first flaw ends the reading
abbrev pub ◌>>=◌ : {A B : Type 0} → Result A Flaw → (A → Result B Flaw) → Result B Flaw
(Ok x) >>= f = f x
(Err e) >>= f = Err e

-- the flaw of an element
abbrev pub flaw_at : Section → ℕ → ℕ → Kind → Flaw
flaw_at section period index kind = record { section = section; period = period; index = index; kind = kind }

-- a number, lowest byte first; the flaw, if the bytes do not hold it whole
unfoldable pub number_at : Width → Flaw → List ℕ → Taken ℕ
number_at w missing bytes =
    if nat_lt (length bytes) (byte_len w) then Err missing
    else Ok (from_le_bytes w (take (byte_len w) bytes), drop (byte_len w) bytes)

-- one item after the other; how each is read may depend on those before it
unfoldable pub items_at : {A S : Type 0} → (List A → S → Result (A × S) Flaw) → ℕ → List A → S → Result (List A × S) Flaw
items_at next zero seen rest = Ok (seen, rest)
items_at next (suc more) seen rest = do
  item ← next seen rest
  items_at next more (seen ++ item.0 ∷ []) item.1

-- a number of four bytes in a list of a section
unfoldable pub short_at : Section → ℕ → List ℕ → List ℕ → Taken ℕ
short_at section period seen bytes = number_at w32 (flaw_at section period (length seen) Short) bytes

-- whether a number is greater than the last of those before it
abbrev pub rises : List ℕ → ℕ → Bool
rises seen n = (length seen == 0) || nat_lt (slice_index seen (length seen - 1)) n

-- a number that must be greater than the one before it
unfoldable pub rising_at : Width → Section → List ℕ → List ℕ → Taken ℕ
rising_at w section seen bytes = do
  n ← number_at w (flaw_at section 0 (length seen) Short) bytes
  if rises seen n.0 then Ok n else Err (flaw_at section 0 (length seen) Order)

-- a rule: two numbers of four bytes, which are one element
unfoldable pub rule_at : List (ℕ × ℕ) → List ℕ → Taken (ℕ × ℕ)
rule_at seen bytes = do
  left ← number_at w32 (flaw_at Rules 0 (length seen) Short) bytes
  right ← number_at w32 (flaw_at Rules 0 (length seen) Short) left.1
  Ok ((left.0, right.0), right.1)

-- whether one of the last byte's bits past the list is 1
abbrev pub has_spare : ℕ → List ℕ → Bool
has_spare count bytes = nat_lt 0 (ones_of (drop count (bits_in bytes)))

-- a list of bits; the flaw of a byte that is missing, or of the last one
unfoldable pub bits_at : Section → ℕ → ℕ → List ℕ → Taken (List Bool)
bits_at section period count bytes =
    if nat_lt (length bytes) (bytes_for count) then Err (flaw_at section period (length bytes) Short)
    else if has_spare count (take (bytes_for count) bytes)
    then Err (flaw_at section period (bytes_for count - 1) Pad)
    else Ok (take count (bits_in (take (bytes_for count) bytes)), drop (bytes_for count) bytes)

-- so many numbers of so many bits each, from the front of the bits
unfoldable pub numbers_from_bits : ℕ → ℕ → List Bool → List ℕ
numbers_from_bits width zero bits = []
numbers_from_bits width (suc n) bits = number_of (take width bits) ∷ numbers_from_bits width n (drop width bits)

-- numbers of so many bits each, whose bytes are the elements of the log
unfoldable pub packed_at : ℕ → ℕ → List ℕ → Taken (List ℕ)
packed_at width count bytes = do
  bits ← bits_at Log 0 (width * count) bytes
  Ok (numbers_from_bits width count bits.0, bits.1)

-- the symbols of all logs: of so many bits each where they are packed, else of four bytes
unfoldable pub log_at : Spelling → ℕ → ℕ → List ℕ → Taken (List ℕ)
log_at spelling width count bytes =
    if packs_symbols spelling then packed_at width count bytes else items_at (short_at Log 0) count [] bytes

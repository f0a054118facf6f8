-- How the parts of an index stand in its bytes: numbers lowest byte first, bits from the lowest of a byte.
use Rattle.std.specs.Prelude.{ℕ, ℤ, ◌+◌, Bool, if◌then◌else◌, List, [], ◌∷◌, ◌++◌, length}
use Rattle.std.specs.List.{flat_map}
use Rattle.std.specs.Int.{w32, w64, to_le_bytes, cast_unsigned}
use Rattle.packed_bits.specs.Words.{low_bits}
unfoldable pub use Rattle.bit_stream.specs.Bytes.{bits_in, bytes_filled, bit_bytes}
pub use Rattle.bit_stream.specs.Bytes.{bytes_for}
use Rattle.index_format.specs.declared.header.Header.{Header}
use Rattle.index_format.specs.declared.header.Sizes.{Sizes}
use Rattle.track_types.specs.PartsForm.{symbol_width}
use Rattle.track_types.specs.Spelling.{holds_parts, packs_symbols, spelling_of}
use Rattle.track_types.specs.declared.parts.Parts.{Parts}
use Rattle.track_types.specs.declared.period_parts.PeriodParts.{PeriodParts}
use Rattle.track_types.specs.declared.spelling.Spelling.{Spelling}

-- the numbers of four bytes in a header
abbrev pub sizes_of : Header → Sizes
sizes_of header = record {
  period = header.frame.period;
  height = header.frame.height;
  objects = header.objects;
  span = header.frame.span;
  alphabet = header.alphabet;
  rules = header.rules;
  symbols = header.symbols;
}

-- the header of parts: their frame, and how long those lists are that nothing else tells
abbrev pub header_of : Parts → Header
header_of parts = record {
  frame = parts.frame;
  objects = length parts.objects;
  alphabet = length parts.alphabet;
  rules = length parts.rules;
  symbols = length parts.symbols;
}

-- the eight bytes that an index of a version begins with: GRACT001, GRACT002, GRACT003
abbrev pub magic : ℕ → List ℕ
magic version = 71 ∷ 82 ∷ 65 ∷ 67 ∷ 84 ∷ 48 ∷ 48 ∷ (48 + version) ∷ []

-- a number below 2^32 as four bytes
unfoldable pub short_bytes : ℕ → List ℕ
short_bytes n = to_le_bytes w32 n

-- a number below 2^64 as eight bytes
unfoldable pub long_bytes : ℕ → List ℕ
long_bytes n = to_le_bytes w64 n

-- a signed number as eight bytes, in two's complement
unfoldable pub signed_bytes : ℤ → List ℕ
signed_bytes z = long_bytes (cast_unsigned w64 z)

-- the two numbers of a rule
unfoldable pub rule_bytes : ℕ × ℕ → List ℕ
rule_bytes rule = short_bytes rule.0 ++ short_bytes rule.1

-- the bits of numbers of so many bits, each number's lowest first
unfoldable pub bits_with : ℕ → List ℕ → List Bool
bits_with width numbers = flat_map (low_bits width) numbers

-- the symbols of all logs: of so many bits each where they are packed, else of four bytes
unfoldable pub log_bytes : Spelling → ℕ → List ℕ → List ℕ
log_bytes spelling width symbols =
    if packs_symbols spelling then bit_bytes (bits_with width symbols) else flat_map short_bytes symbols

-- what an index holds of a period
unfoldable pub period_bytes : PeriodParts → List ℕ
period_bytes period =
    bit_bytes period.present ++ flat_map short_bytes period.offsets
    ++ short_bytes (length period.tree) ++ bit_bytes period.tree ++ bit_bytes period.lasts
    ++ flat_map short_bytes period.perm ++ flat_map short_bytes period.lengths

-- how many symbols the logs have, where the file holds parts; the blocks of an outline tell it
unfoldable pub symbols_bytes : Spelling → ℕ → List ℕ
symbols_bytes spelling symbols = if holds_parts spelling then short_bytes symbols else []

-- the header's numbers of four bytes
unfoldable pub size_bytes : Spelling → Sizes → List ℕ
size_bytes spelling sizes =
    short_bytes sizes.period ++ short_bytes sizes.height ++ short_bytes sizes.objects ++ short_bytes sizes.span
    ++ short_bytes sizes.alphabet ++ short_bytes sizes.rules ++ symbols_bytes spelling sizes.symbols

-- the header after the eight bytes that name the version: the numbers of four bytes and those of eight
unfoldable pub fields_bytes : Header → List ℕ
fields_bytes header =
    size_bytes (spelling_of header.frame.version) (sizes_of header)
    ++ signed_bytes header.frame.first ++ signed_bytes header.frame.base.x ++ signed_bytes header.frame.base.y
    ++ long_bytes header.frame.cell ++ long_bytes header.frame.tick

-- the header
unfoldable pub header_bytes : Header → List ℕ
header_bytes header = magic header.frame.version ++ fields_bytes header

-- what follows the header in a file that holds parts
unfoldable pub parts_bytes : Parts → List ℕ
parts_bytes parts =
    flat_map short_bytes parts.objects ++ flat_map long_bytes parts.alphabet
    ++ flat_map rule_bytes parts.rules ++ flat_map period_bytes parts.periods
    ++ log_bytes (spelling_of parts.frame.version) (symbol_width parts) parts.symbols

-- an index file that holds parts
unfoldable pub bytes_of_parts : Parts → List ℕ
bytes_of_parts parts = header_bytes (header_of parts) ++ parts_bytes parts

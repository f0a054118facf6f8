-- The file of 123 bytes, the same parts in the 116 bytes of version 2, and what is said of damaged ones.
use Rattle.std.proofs.Common.{◌≡◌, ℕ, ◌+◌, pos, true, false, List, [], ◌∷◌, ◌++◌, length, take, Ok, Err, refl}
use Rattle.track_types.specs.PartsForm.{width_for}
use Rattle.track_types.specs.declared.flaw.Kind.TheVariants.{Short, Magic, Field, Extra, Pad}
use Rattle.track_types.specs.declared.flaw.Section.TheVariants.{Header, Presence, Log, End}
use Rattle.track_types.specs.declared.parts.Parts.{Parts}
use Rattle.packed_bits.specs.Bits.{number_of, ones_of}
use Rattle.packed_bits.specs.Words.{low_bits}
use Rattle.index_format.specs.Spelling.{bytes_of_parts, parts_bytes, short_bytes, long_bytes, signed_bytes, rule_bytes, bits_in, bits_with, bytes_filled, bit_bytes, log_bytes, period_bytes, symbols_bytes, size_bytes, fields_bytes, header_bytes}
use Rattle.index_format.specs.Fields.{flaw_at, number_at, items_at, short_at, rising_at, rule_at, bits_at, numbers_from_bits, packed_at, log_at}
use Rattle.index_format.specs.Reading.{version_at, field_at, signed_at, symbols_at, sizes_at, fields_at, header_at, tree_length_at, period_sections_at, parts_after}
use Rattle.index_format.specs.Stored.{stored_after, stored_in}
use Rattle.index_format.specs.declared.stored.Stored.TheVariants as stored

-- object 7 at three instants, in one period
abbrev whole : ℕ → ℕ → Parts
whole version height = record {
  frame = record {
    version = version;
    first = pos 0;
    span = 3;
    period = 4;
    height = height;
    base = record { x = pos 10; y = pos 10 };
    cell = 1;
    tick = 1;
  };
  objects = 7 ∷ [];
  alphabet = 2 ∷ 3 ∷ [];
  rules = [];
  periods = record {
    present = true ∷ [];
    offsets = 0 ∷ [];
    tree = true ∷ false ∷ false ∷ false ∷ true ∷ false ∷ false ∷ false ∷ [];
    lasts = true ∷ [];
    perm = 0 ∷ [];
    lengths = 2 ∷ [];
  } ∷ [];
  symbols = 0 ∷ 1 ∷ [];
}

-- the first 84 bytes of its file: header, objects, alphabet
abbrev front : ℕ → ℕ → List ℕ
front version height =
    71 ∷ 82 ∷ 65 ∷ 67 ∷ 84 ∷ 48 ∷ 48 ∷ (48 + version) ∷ 4 ∷ 0 ∷ 0 ∷ 0 ∷ height ∷ 0 ∷ 0 ∷ 0 ∷ 1 ∷ 0 ∷ 0 ∷ 0 ∷ 3 ∷ 0 ∷ 0 ∷ 0
    ∷ 2 ∷ 0 ∷ 0 ∷ 0 ∷ 0 ∷ 0 ∷ 0 ∷ 0 ∷ 2 ∷ 0 ∷ 0 ∷ 0 ∷ 0 ∷ 0 ∷ 0 ∷ 0 ∷ 0 ∷ 0 ∷ 0 ∷ 0
    ∷ 10 ∷ 0 ∷ 0 ∷ 0 ∷ 0 ∷ 0 ∷ 0 ∷ 0 ∷ 10 ∷ 0 ∷ 0 ∷ 0 ∷ 0 ∷ 0 ∷ 0 ∷ 0
    ∷ 1 ∷ 0 ∷ 0 ∷ 0 ∷ 0 ∷ 0 ∷ 0 ∷ 0 ∷ 1 ∷ 0 ∷ 0 ∷ 0 ∷ 0 ∷ 0 ∷ 0 ∷ 0
    ∷ 7 ∷ 0 ∷ 0 ∷ 0 ∷ 2 ∷ 0 ∷ 0 ∷ 0 ∷ 0 ∷ 0 ∷ 0 ∷ 0 ∷ 3 ∷ 0 ∷ 0 ∷ 0 ∷ 0 ∷ 0 ∷ 0 ∷ 0 ∷ []

-- what stands between its presence bits and its log
abbrev middle : List ℕ
middle = 0 ∷ 0 ∷ 0 ∷ 0 ∷ 8 ∷ 0 ∷ 0 ∷ 0 ∷ 17 ∷ 1 ∷ 0 ∷ 0 ∷ 0 ∷ 0 ∷ 2 ∷ 0 ∷ 0 ∷ 0 ∷ []

-- the file of version 1 with this height and these presence bits
abbrev file : ℕ → ℕ → List ℕ
file height presence = front 1 height ++ presence ∷ middle ++ 0 ∷ 0 ∷ 0 ∷ 0 ∷ 1 ∷ 0 ∷ 0 ∷ 0 ∷ []

-- that of version 2 with this height, whose log is one byte
abbrev packed_file : ℕ → ℕ → List ℕ
packed_file height log = front 2 height ++ 1 ∷ middle ++ log ∷ []

are_long : (length (file 2 1) ∷ length (packed_file 2 2) ∷ []) ≡ 123 ∷ 116 ∷ []
are_long = refl

are_written : (bytes_of_parts (whole 1 2) ≡ file 2 1) × (bytes_of_parts (whole 2 2) ≡ packed_file 2 2)
unfolding bytes_of_parts parts_bytes short_bytes long_bytes signed_bytes rule_bytes bits_with bytes_filled bit_bytes log_bytes period_bytes symbols_bytes size_bytes fields_bytes header_bytes number_of low_bits width_for
are_written = (refl, refl)

is_read : stored_in (file 2 1) ≡ Ok (stored.Parts (whole 1 2))
unfolding number_at items_at short_at rising_at rule_at bits_at numbers_from_bits packed_at log_at version_at field_at signed_at symbols_at sizes_at fields_at header_at tree_length_at period_sections_at parts_after stored_after stored_in bits_in low_bits number_of ones_of width_for
is_read = refl

packed_is_read : stored_in (packed_file 2 2) ≡ Ok (stored.Parts (whole 2 2))
unfolding number_at items_at short_at rising_at rule_at bits_at numbers_from_bits packed_at log_at version_at field_at signed_at symbols_at sizes_at fields_at header_at tree_length_at period_sections_at parts_after stored_after stored_in bits_in low_bits number_of ones_of width_for
packed_is_read = refl

is_cut : stored_in (take 122 (file 2 1)) ≡ Err (flaw_at Log 0 1 Short)
unfolding number_at items_at short_at rising_at rule_at bits_at numbers_from_bits packed_at log_at version_at field_at signed_at symbols_at sizes_at fields_at header_at tree_length_at period_sections_at parts_after stored_after stored_in bits_in low_bits number_of ones_of width_for
is_cut = refl

packed_is_cut : stored_in (take 115 (packed_file 2 2)) ≡ Err (flaw_at Log 0 0 Short)
unfolding number_at items_at short_at rising_at rule_at bits_at numbers_from_bits packed_at log_at version_at field_at signed_at symbols_at sizes_at fields_at header_at tree_length_at period_sections_at parts_after stored_after stored_in bits_in low_bits number_of ones_of width_for
packed_is_cut = refl

packed_is_padded : stored_in (packed_file 2 6) ≡ Err (flaw_at Log 0 0 Pad)
unfolding number_at items_at short_at rising_at rule_at bits_at numbers_from_bits packed_at log_at version_at field_at signed_at symbols_at sizes_at fields_at header_at tree_length_at period_sections_at parts_after stored_after stored_in bits_in low_bits number_of ones_of width_for
packed_is_padded = refl

is_high : stored_in (file 21 1) ≡ Err (flaw_at Header 0 2 Field)
unfolding number_at items_at short_at rising_at rule_at bits_at numbers_from_bits packed_at log_at version_at field_at signed_at symbols_at sizes_at fields_at header_at tree_length_at period_sections_at parts_after stored_after stored_in bits_in low_bits number_of ones_of width_for
is_high = refl

packed_is_high : stored_in (packed_file 21 2) ≡ Ok (stored.Parts (whole 2 21))
unfolding number_at items_at short_at rising_at rule_at bits_at numbers_from_bits packed_at log_at version_at field_at signed_at symbols_at sizes_at fields_at header_at tree_length_at period_sections_at parts_after stored_after stored_in bits_in low_bits number_of ones_of width_for
packed_is_high = refl

is_empty : stored_in [] ≡ Err (flaw_at Header 0 0 Short)
unfolding version_at header_at stored_in
is_empty = refl

is_longer : stored_in (file 2 1 ++ 0 ∷ []) ≡ Err (flaw_at End 0 0 Extra)
unfolding number_at items_at short_at rising_at rule_at bits_at numbers_from_bits packed_at log_at version_at field_at signed_at symbols_at sizes_at fields_at header_at tree_length_at period_sections_at parts_after stored_after stored_in bits_in low_bits number_of ones_of width_for
is_longer = refl

is_padded : stored_in (file 2 3) ≡ Err (flaw_at Presence 0 0 Pad)
unfolding number_at items_at short_at rising_at rule_at bits_at numbers_from_bits packed_at log_at version_at field_at signed_at symbols_at sizes_at fields_at header_at tree_length_at period_sections_at parts_after stored_after stored_in bits_in low_bits number_of ones_of width_for
is_padded = refl

is_other : stored_in (front 4 2) ≡ Err (flaw_at Header 0 0 Magic)
unfolding version_at header_at stored_in
is_other = refl

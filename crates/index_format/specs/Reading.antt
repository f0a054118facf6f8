-- What the bytes of an index hold: the header, and the parts in a file that holds them, or the first flaw.
use Rattle.std.specs.Prelude.{bytes_eq, ℕ, ℤ, pos, neg_ℤ, ◌+ℤ◌, ◌+◌, ◌-◌, ◌*◌, Bool, ◌&&◌, List, [], length, take, drop, Result, Ok, Err, nat_lt, nat_le, ◌==◌, if◌then◌else◌}
use Rattle.std.specs.Int.{Width, w32, w64, div_ceil, cast_signed}
use Rattle.std.specs.Int.Signed.{le_z}
use Rattle.packed_bits.specs.Bits.{ones_of}
use Rattle.track_types.specs.Frame.{periods_of}
use Rattle.track_types.specs.PartsForm.{width_for}
use Rattle.track_types.specs.Limits.{limit_of}
use Rattle.track_types.specs.Spelling.{greatest_height, holds_parts, spelling_of}
use Rattle.track_types.specs.declared.limit.LimitKind.TheVariants as limits
use Rattle.track_types.specs.declared.limit.TheConstants.{MAX_PERIOD, MAX_PLACE, MAX_RESOLUTION, MAX_TREE}
use Rattle.track_types.specs.declared.flaw.Flaw.{Flaw}
use Rattle.track_types.specs.declared.flaw.Kind.{Kind}
use Rattle.track_types.specs.declared.flaw.Kind.TheVariants.{Short, Magic, Field, Extra}
use Rattle.track_types.specs.declared.flaw.Section.TheVariants.{Header, Objects, Alphabet, Presence, Offsets, TreeLen, Tree, Lasts, Perm, Lengths, End}
use Rattle.track_types.specs.declared.parts.Parts.{Parts}
use Rattle.track_types.specs.declared.period_parts.PeriodParts.{PeriodParts}
use Rattle.track_types.specs.declared.spelling.Spelling.{Spelling}
use Rattle.index_format.specs.declared.header.Sizes.{Sizes}
use Rattle.index_format.specs.declared.header.Header as headers
use Rattle.index_format.specs.Spelling.{magic}
use Rattle.index_format.specs.Fields.{◌>>=◌, Taken, flaw_at, number_at, items_at, short_at, rising_at, rule_at, bits_at, log_at}

-- a field of the header is out of its range
abbrev pub header_flaw : ℕ → Kind → Flaw
header_flaw index kind = flaw_at Header 0 index kind

-- least to greatest, both counted
abbrev pub is_in_range : ℕ → ℕ → ℕ → Bool
is_in_range least greatest n = nat_le least n && nat_le n greatest

-- the greatest distance of a coordinate or an instant from 0
abbrev pub far : ℤ
far = pos MAX_PLACE

-- at most `far` from 0
abbrev pub is_near : ℤ → Bool
is_near z = le_z (neg_ℤ far) z && le_z z far

-- the span is in its range, and objects times periods is
abbrev pub is_span : ℕ → ℕ → ℕ → Bool
is_span objects period span =
    is_in_range 1 (limit_of limits.Span) span && nat_le (objects * div_ceil span period) (limit_of limits.Blocks)

-- an instant from which the whole span is at most `far` from 0
abbrev pub is_first : ℕ → ℤ → Bool
is_first span first = le_z (neg_ℤ far) first && le_z (first +ℤ pos (span - 1)) far

-- the version that the eight bytes at the front name
unfoldable pub version_at : List ℕ → Taken ℕ
version_at bytes =
    if nat_lt (length bytes) 8 then Err (header_flaw 0 Short)
    else if bytes_eq (take 8 bytes) (magic 1) then Ok (1, drop 8 bytes)
    else if bytes_eq (take 8 bytes) (magic 2) then Ok (2, drop 8 bytes)
    else if bytes_eq (take 8 bytes) (magic 3) then Ok (3, drop 8 bytes)
    else Err (header_flaw 0 Magic)

-- a field of the header that passes a test
unfoldable pub field_at : Width → ℕ → (ℕ → Bool) → List ℕ → Taken ℕ
field_at w index passes bytes = do
  n ← number_at w (header_flaw index Short) bytes
  if passes n.0 then Ok n else Err (header_flaw index Field)

-- a signed field of the header that passes a test
unfoldable pub signed_at : ℕ → (ℤ → Bool) → List ℕ → Taken ℤ
signed_at index passes bytes = do
  n ← number_at w64 (header_flaw index Short) bytes
  if passes (cast_signed w64 n.0) then Ok (cast_signed w64 n.0, n.1) else Err (header_flaw index Field)

-- how many symbols the logs have, where the file holds parts, else 0
unfoldable pub symbols_at : Spelling → List ℕ → Taken ℕ
symbols_at spelling bytes =
    if holds_parts spelling then field_at w32 7 (is_in_range 0 (limit_of limits.Symbols)) bytes else Ok (0, bytes)

-- the header's numbers of four bytes
unfoldable pub sizes_at : Spelling → List ℕ → Taken Sizes
sizes_at spelling bytes = do
  period ← field_at w32 1 (is_in_range 1 MAX_PERIOD) bytes
  height ← field_at w32 2 (is_in_range 1 (greatest_height spelling)) period.1
  objects ← field_at w32 3 (is_in_range 1 (limit_of limits.Objects)) height.1
  span ← field_at w32 4 (is_span objects.0 period.0) objects.1
  alphabet ← field_at w32 5 (is_in_range 0 (limit_of limits.Symbols)) span.1
  rules ← field_at w32 6 (is_in_range 0 (limit_of limits.Symbols)) alphabet.1
  symbols ← symbols_at spelling rules.1
  Ok (
    record {
      period = period.0;
      height = height.0;
      objects = objects.0;
      span = span.0;
      alphabet = alphabet.0;
      rules = rules.0;
      symbols = symbols.0;
    },
    symbols.1,
  )

-- the place of the first field of eight bytes
abbrev pub long_place : Spelling → ℕ
long_place spelling = if holds_parts spelling then 8 else 7

-- the header of a version, after the eight bytes that name it
unfoldable pub fields_at : ℕ → List ℕ → Taken headers.Header
fields_at version bytes = do
  sizes ← sizes_at (spelling_of version) bytes
  first ← signed_at (long_place (spelling_of version)) (is_first sizes.0.span) sizes.1
  x ← signed_at (long_place (spelling_of version) + 1) is_near first.1
  y ← signed_at (long_place (spelling_of version) + 2) is_near x.1
  cell ← field_at w64 (long_place (spelling_of version) + 3) (is_in_range 1 MAX_RESOLUTION) y.1
  tick ← field_at w64 (long_place (spelling_of version) + 4) (is_in_range 1 MAX_RESOLUTION) cell.1
  Ok (
    record {
      frame = record {
        version = version;
        first = first.0;
        span = sizes.0.span;
        period = sizes.0.period;
        height = sizes.0.height;
        base = record { x = x.0; y = y.0 };
        cell = cell.0;
        tick = tick.0;
      };
      objects = sizes.0.objects;
      alphabet = sizes.0.alphabet;
      rules = sizes.0.rules;
      symbols = sizes.0.symbols;
    },
    tick.1,
  )

-- the header
unfoldable pub header_at : List ℕ → Taken headers.Header
header_at bytes = do
  version ← version_at bytes
  fields_at version.0 version.1

-- how many bits the tree has
unfoldable pub tree_length_at : ℕ → List ℕ → Taken ℕ
tree_length_at number bytes = do
  n ← number_at w32 (flaw_at TreeLen number 0 Short) bytes
  if nat_le n.0 MAX_TREE then Ok n else Err (flaw_at TreeLen number 0 Field)

-- the sections of one period, for so many objects
unfoldable pub period_sections_at : ℕ → List PeriodParts → List ℕ → Taken PeriodParts
period_sections_at objects seen bytes = do
  present ← bits_at Presence (length seen) objects bytes
  offsets ← items_at (short_at Offsets (length seen)) (ones_of present.0) [] present.1
  long ← tree_length_at (length seen) offsets.1
  tree ← bits_at Tree (length seen) long.0 long.1
  lasts ← bits_at Lasts (length seen) (ones_of present.0) tree.1
  perm ← items_at (short_at Perm (length seen)) (ones_of present.0) [] lasts.1
  lengths ← items_at (short_at Lengths (length seen)) (ones_of present.0) [] perm.1
  Ok (
    record {
      present = present.0;
      offsets = offsets.0;
      tree = tree.0;
      lasts = lasts.0;
      perm = perm.0;
      lengths = lengths.0;
    },
    lengths.1,
  )

-- nothing follows
abbrev pub ended : {A : Type 0} → List ℕ → A → Result A Flaw
ended bytes value = if length bytes == 0 then Ok value else Err (flaw_at End 0 0 Extra)

-- the parts that all bytes after the header hold
unfoldable pub parts_after : headers.Header → List ℕ → Result Parts Flaw
parts_after header bytes = do
  objects ← items_at (rising_at w32 Objects) header.objects [] bytes
  alphabet ← items_at (rising_at w64 Alphabet) header.alphabet [] objects.1
  rules ← items_at rule_at header.rules [] alphabet.1
  periods ← items_at (period_sections_at header.objects) (periods_of header.frame) [] rules.1
  symbols ← log_at (spelling_of header.frame.version) (width_for (header.alphabet + header.rules)) header.symbols periods.1
  ended symbols.1 (record {
    frame = header.frame;
    objects = objects.0;
    alphabet = alphabet.0;
    rules = rules.0;
    periods = periods.0;
    symbols = symbols.0;
  })

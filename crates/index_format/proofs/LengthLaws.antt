-- How many bytes the parts of an index take.
use Rattle.std.proofs.Common.{◌≡◌, ℕ, ◌+◌, ◌*◌, ◌≤◌, List, length, refl, ap, ◌∙◌, inl, inr, arith}
use Rattle.std.specs.Prelude.{true, if◌then◌else◌}
use Rattle.std.proofs.lemmas.Bool.{cases_Bool}
use Rattle.std.specs.List.{flat_map}
use Rattle.std.proofs.lemmas.List.{length-append}
use Rattle.list_laws.proofs.LengthLemmas.{length-flat_map-alike}
use Rattle.track_types.specs.PartsForm.{symbol_width}
use Rattle.track_types.specs.Spelling.{holds_parts, packs_symbols, spelling_of}
use Rattle.track_types.specs.declared.parts.Parts.{Parts}
use Rattle.track_types.specs.declared.period_parts.PeriodParts.{PeriodParts}
use Rattle.track_types.specs.declared.spelling.Spelling.{Spelling}
use Rattle.index_format.specs.declared.header.Header.{Header}
use Rattle.index_format.specs.Spelling.{bits_with, bytes_for, bytes_of_parts, header_bytes, log_bytes, long_bytes, parts_bytes}
use Rattle.index_format.specs.Spelling.{fields_bytes, period_bytes, rule_bytes, short_bytes, signed_bytes, size_bytes, symbols_bytes}
use Rattle.index_format.proofs.BitLemmas.{length-bit_bytes}
use Rattle.index_format.proofs.SymbolLemmas.{length-bits_with}
use Rattle.index_format.proofs.Laws.{wide32, wide64}

-- numbers of four bytes
pub length-shorts : (numbers : List ℕ) → length (flat_map short_bytes numbers) ≡ 4 * length numbers
length-shorts numbers = length-flat_map-alike short_bytes 4 wide32.long numbers

-- numbers of eight bytes
pub length-longs : (numbers : List ℕ) → length (flat_map long_bytes numbers) ≡ 8 * length numbers
length-longs numbers = length-flat_map-alike long_bytes 8 wide64.long numbers

-- rules
pub length-rules : (rules : List (ℕ × ℕ)) → length (flat_map rule_bytes rules) ≡ 8 * length rules
unfolding rule_bytes
length-rules rules =
    length-flat_map-alike rule_bytes 8
    (λ rule.
    omega (arith, length-append (short_bytes rule.0) (short_bytes rule.1), wide32.long rule.0, wide32.long rule.1))
    rules

-- how many bytes a header has
abbrev pub header_length : Spelling → ℕ
header_length spelling = if holds_parts spelling then 76 else 72

-- these are as many
pub length-header_bytes : (header : Header) → length (header_bytes header) ≡ header_length (spelling_of header.frame.version)
unfolding header_bytes fields_bytes size_bytes symbols_bytes signed_bytes short_bytes long_bytes
length-header_bytes header = elim (cases_Bool (holds_parts (spelling_of header.frame.version))) [
  | inl holds ↦ rw holds refl
  | inr silent ↦ rw silent refl
]

-- where the file holds parts it has 76
pub header_length-parts : (spelling : Spelling) → holds_parts spelling ≡ true → header_length spelling ≡ 76
header_length-parts spelling holds = rw holds refl

-- how many bytes a period takes
abbrev pub period_length : PeriodParts → ℕ
period_length period =
    bytes_for (length period.present) + 4 * length period.offsets
    + 4 + bytes_for (length period.tree) + bytes_for (length period.lasts)
    + 4 * length period.perm + 4 * length period.lengths

-- these are as many
pub length-period_bytes : (period : PeriodParts) → length (period_bytes period) ≡ period_length period
unfolding period_bytes
length-period_bytes period = simp (
  length-append,
  length-bit_bytes,
  length-shorts,
  wide32.long,
) (omega arith)

-- how many bytes so many symbols take, of so many bits each where they are packed
abbrev pub log_length : Spelling → ℕ → ℕ → ℕ
log_length spelling width count = if packs_symbols spelling then bytes_for (width * count) else (4 * count)

-- these are as many
pub length-log_bytes : (spelling : Spelling) (width : ℕ) (symbols : List ℕ)
    → length (log_bytes spelling width symbols) ≡ log_length spelling width (length symbols)
unfolding log_bytes
length-log_bytes spelling width symbols = elim (cases_Bool (packs_symbols spelling)) [
  | inl packs ↦ rw packs (length-bit_bytes (bits_with width symbols) ∙ ap bytes_for (length-bits_with width symbols))
  | inr whole ↦ rw whole (length-shorts symbols)
]

-- how many bytes the parts take
pub length-bytes_of_parts : (parts : Parts)
    → length (bytes_of_parts parts)
    ≡ header_length (spelling_of parts.frame.version) + 4 * length parts.objects + 8 * length parts.alphabet + 8 * length parts.rules
    + length (flat_map period_bytes parts.periods)
    + log_length (spelling_of parts.frame.version) (symbol_width parts) (length parts.symbols)
unfolding bytes_of_parts parts_bytes
length-bytes_of_parts parts = simp (
  length-append,
  length-header_bytes,
  length-shorts,
  length-longs,
  length-rules,
  length-log_bytes,
) (omega arith)

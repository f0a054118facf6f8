-- Two whole files of version 3, written and read, and what is said of damaged ones.
use Rattle.std.proofs.Common.{◌≡◌, ℕ, pos, List, [], ◌∷◌, ◌++◌, length, take, drop, Ok, Err, refl}
use lib.Count.{count_leading_zeros}
use Rattle.packed_bits.specs.Bits.{number_of, ones_of}
use Rattle.packed_bits.specs.Words.{low_bits}
use Rattle.bit_stream.specs.Bytes.{bits_in, bytes_filled, bit_bytes}
use Rattle.bit_stream.specs.Numbers.{lg, delta_bits, number_bits, low_in, zeros_in, digits_in, number_in}
use Rattle.list_laws.specs.Grown.{table_of_rules}
use Rattle.spiral_code.specs.Spiral.{side_moves, ring_moves, ring_of_code, move_of, code_of}
use Rattle.rule_store.specs.Boxes.{box_round, bounding_box_of}
use Rattle.rule_store.specs.Cells.{cells_along, displacement_of}
use Rattle.rule_store.specs.Entry.{entry_of}
use Rattle.rule_store.specs.Expansion.{expansion_of, values_of}
use Rattle.rule_store.specs.Flaws.{is_rule_flawed}
use Rattle.rule_store.specs.Log.{log_values}
use Rattle.track_types.specs.PartsForm.{width_for}
use Rattle.track_types.specs.declared.flaw.Kind.TheVariants as kind
use Rattle.track_types.specs.declared.flaw.Section.TheVariants as section
use Rattle.index_format.specs.Spelling.{short_bytes, long_bytes, signed_bytes, symbols_bytes, size_bytes, fields_bytes, header_bytes}
use Rattle.index_format.specs.Fields.{flaw_at, number_at, items_at}
use Rattle.index_format.specs.Reading.{version_at, field_at, signed_at, symbols_at, sizes_at, fields_at, header_at}
use Rattle.index_format.specs.Elements.{told_at, wide_at}
use Rattle.index_format.specs.OutlineLists.{object_in, value_in, gaps_from, told_bits, gap_bits}
use Rattle.index_format.specs.OutlineRules.{layer_rules, symbols_under, layer_rule_in, layers_in, rules_in, rule_numbers, layer_bits, rules_bits}
use Rattle.index_format.specs.OutlineBlocks.{anchor_in, entry_in, log_in, block_in, further_in, object_blocks_in, blocks_in, when_bits, anchor_bits, end_bits, object_bits, blocks_bits}
use Rattle.index_format.specs.OutlineFile.{outline_after, outline_bits, outline_bytes}
use Rattle.index_format.specs.Stored.{stored_after, stored_in}
use Rattle.index_format.specs.declared.stored.Stored.TheVariants as stored
use Rattle.index_format.specs.declared.outline.Outline.{Outline}

-- object 7 at (10, 10), (11, 10) and (12, 11), one instant after the other, in one period
abbrev pub short : Outline
short = record {
  frame = record {
    version = 3;
    first = pos 0;
    span = 3;
    period = 4;
    height = 2;
    base = record { x = pos 10; y = pos 10 };
    cell = 1;
    tick = 1;
  };
  objects = 7 ∷ [];
  alphabet = 2 ∷ 3 ∷ [];
  rules = [];
  blocks = record { period = 0; index = 0; offset = 0; cell = record { x = pos 0; y = pos 0 }; length = 2 } ∷ [];
  symbols = 0 ∷ 1 ∷ [];
}

-- a header of version 3 with this height, so many objects, span, values and rules
abbrev head : ℕ → ℕ → ℕ → ℕ → ℕ → List ℕ
head height objects span alphabet rules =
    71 ∷ 82 ∷ 65 ∷ 67 ∷ 84 ∷ 48 ∷ 48 ∷ 51 ∷ 4 ∷ 0 ∷ 0 ∷ 0 ∷ height ∷ 0 ∷ 0 ∷ 0 ∷ objects ∷ 0 ∷ 0 ∷ 0 ∷ span ∷ 0 ∷ 0 ∷ 0
    ∷ alphabet ∷ 0 ∷ 0 ∷ 0 ∷ rules ∷ 0 ∷ 0 ∷ 0 ∷ 0 ∷ 0 ∷ 0 ∷ 0 ∷ 0 ∷ 0 ∷ 0 ∷ 0
    ∷ 10 ∷ 0 ∷ 0 ∷ 0 ∷ 0 ∷ 0 ∷ 0 ∷ 0 ∷ 10 ∷ 0 ∷ 0 ∷ 0 ∷ 0 ∷ 0 ∷ 0 ∷ 0
    ∷ 1 ∷ 0 ∷ 0 ∷ 0 ∷ 0 ∷ 0 ∷ 0 ∷ 0 ∷ 1 ∷ 0 ∷ 0 ∷ 0 ∷ 0 ∷ 0 ∷ 0 ∷ 0 ∷ []

-- the file of one object, with these bytes after the header
abbrev short_file : List ℕ → List ℕ
short_file bytes = head 2 1 3 2 0 ++ bytes

is_long : length (short_file (4 ∷ 58 ∷ 8 ∷ [])) ≡ 75
is_long = refl

is_written : outline_bytes short ≡ short_file (4 ∷ 58 ∷ 8 ∷ [])
unfolding outline_bytes header_bytes fields_bytes size_bytes symbols_bytes outline_bits short_bytes long_bytes signed_bytes gap_bits told_bits gaps_from rules_bits layer_bits layer_rules symbols_under rule_numbers blocks_bits object_bits end_bits anchor_bits when_bits number_bits delta_bits lg count_leading_zeros low_bits bit_bytes bytes_filled number_of table_of_rules code_of side_moves ring_moves ring_of_code move_of displacement_of log_values values_of expansion_of width_for
is_written = refl

is_read : stored_in (short_file (4 ∷ 58 ∷ 8 ∷ [])) ≡ Ok (stored.Outline short)
unfolding stored_in stored_after outline_after header_at version_at fields_at sizes_at symbols_at number_at field_at signed_at told_at wide_at items_at object_in value_in rules_in layers_in layer_rule_in blocks_in object_blocks_in further_in block_in log_in entry_in anchor_in number_in digits_in zeros_in low_in bits_in low_bits number_of ones_of is_rule_flawed entry_of values_of expansion_of table_of_rules displacement_of bounding_box_of box_round cells_along move_of side_moves ring_moves ring_of_code width_for
is_read = refl

-- two objects, one of which stands still between two instants, in two periods, with two rules in two layers
abbrev pub long : Outline
long = record {
  frame = record {
    version = 3;
    first = pos 0;
    span = 8;
    period = 4;
    height = 3;
    base = record { x = pos 10; y = pos 10 };
    cell = 1;
    tick = 1;
  };
  objects = 7 ∷ 9 ∷ [];
  alphabet = 0 ∷ 2 ∷ [];
  rules = (1, 1) ∷ (2, 1) ∷ [];
  blocks =
      record { period = 0; index = 0; offset = 0; cell = record { x = pos 0; y = pos 0 }; length = 1 }
      ∷ record { period = 1; index = 0; offset = 0; cell = record { x = pos 4; y = pos 0 }; length = 1 }
      ∷ record { period = 0; index = 1; offset = 1; cell = record { x = pos 0; y = pos 2 }; length = 2 }
      ∷ record { period = 1; index = 1; offset = 2; cell = record { x = pos 0; y = pos 3 }; length = 1 } ∷ [];
  symbols = 3 ∷ 3 ∷ 0 ∷ 0 ∷ 0 ∷ [];
}

-- the file of two objects, with these bytes after the header
abbrev long_file : List ℕ → List ℕ
long_file bytes = head 3 2 8 2 2 ++ bytes

long_is_written : outline_bytes long ≡ long_file (4 ∷ 82 ∷ 138 ∷ 84 ∷ 9 ∷ 92 ∷ 22 ∷ 8 ∷ 140 ∷ 1 ∷ [])
unfolding outline_bytes header_bytes fields_bytes size_bytes symbols_bytes outline_bits short_bytes long_bytes signed_bytes gap_bits told_bits gaps_from rules_bits layer_bits layer_rules symbols_under rule_numbers blocks_bits object_bits end_bits anchor_bits when_bits number_bits delta_bits lg count_leading_zeros low_bits bit_bytes bytes_filled number_of table_of_rules code_of side_moves ring_moves ring_of_code move_of displacement_of log_values values_of expansion_of width_for
long_is_written = refl

long_is_read : stored_in (long_file (4 ∷ 82 ∷ 138 ∷ 84 ∷ 9 ∷ 92 ∷ 22 ∷ 8 ∷ 140 ∷ 1 ∷ [])) ≡ Ok (stored.Outline long)
unfolding stored_in stored_after outline_after header_at version_at fields_at sizes_at symbols_at number_at field_at signed_at told_at wide_at items_at object_in value_in rules_in layers_in layer_rule_in blocks_in object_blocks_in further_in block_in log_in entry_in anchor_in number_in digits_in zeros_in low_in bits_in low_bits number_of ones_of is_rule_flawed entry_of values_of expansion_of table_of_rules displacement_of bounding_box_of box_round cells_along move_of side_moves ring_moves ring_of_code width_for
long_is_read = refl

headers_are_refused :
    (stored_in ([]) ≡ Err (flaw_at section.Header 0 0 kind.Short))
    × (stored_in (take 71 (short_file [])) ≡ Err (flaw_at section.Header 0 11 kind.Short))
    × (stored_in (take 7 (short_file []) ++ 52 ∷ drop 8 (short_file [])) ≡ Err (flaw_at section.Header 0 0 kind.Magic))
    × (stored_in (head 25 1 3 2 0) ≡ Err (flaw_at section.Header 0 2 kind.Field))
    × (stored_in (head 2 1 2 2 0 ++ (4 ∷ 58 ∷ 8 ∷ [])) ≡ Err (flaw_at section.End 0 0 kind.Pad))
    × (stored_in (head 2 1 3 2 1 ++ (4 ∷ 58 ∷ 8 ∷ [])) ≡ Err (flaw_at section.Rules 0 0 kind.Short))
unfolding stored_in stored_after outline_after header_at version_at fields_at sizes_at symbols_at number_at field_at signed_at told_at wide_at items_at object_in value_in rules_in layers_in layer_rule_in blocks_in object_blocks_in further_in block_in log_in entry_in anchor_in number_in digits_in zeros_in low_in bits_in low_bits number_of ones_of is_rule_flawed entry_of values_of expansion_of table_of_rules displacement_of bounding_box_of box_round cells_along move_of side_moves ring_moves ring_of_code width_for
headers_are_refused = (refl, refl, refl, refl, refl, refl)

lists_are_refused :
    (stored_in (short_file (0 ∷ [])) ≡ Err (flaw_at section.Objects 0 0 kind.Large))
    × (stored_in (short_file []) ≡ Err (flaw_at section.Objects 0 0 kind.Short))
    × (stored_in (short_file (96 ∷ 254 ∷ 255 ∷ 255 ∷ 255 ∷ 255 ∷ 255 ∷ 255 ∷ 255 ∷ 255 ∷ 255 ∷ 7 ∷ [])) ≡ Err (flaw_at section.Objects 0 0 kind.Large))
    × (stored_in (short_file (96 ∷ 8 ∷ 0 ∷ 0 ∷ 0 ∷ 208 ∷ 65 ∷ [])) ≡ Err (flaw_at section.Objects 0 0 kind.Field))
    × (stored_in (short_file (4 ∷ 74 ∷ 97 ∷ 16 ∷ [])) ≡ Err (flaw_at section.Alphabet 0 1 kind.Code))
unfolding stored_in stored_after outline_after header_at version_at fields_at sizes_at symbols_at number_at field_at signed_at told_at wide_at items_at object_in value_in rules_in layers_in layer_rule_in blocks_in object_blocks_in further_in block_in log_in entry_in anchor_in number_in digits_in zeros_in low_in bits_in low_bits number_of ones_of is_rule_flawed entry_of values_of expansion_of table_of_rules displacement_of bounding_box_of box_round cells_along move_of side_moves ring_moves ring_of_code width_for
lists_are_refused = (refl, refl, refl, refl, refl)

rules_are_refused :
    (stored_in (long_file (4 ∷ 82 ∷ 84 ∷ 164 ∷ 74 ∷ 224 ∷ 178 ∷ 64 ∷ 96 ∷ 12 ∷ [])) ≡ Err (flaw_at section.Layers 0 0 kind.Field))
    × (stored_in (long_file (4 ∷ 82 ∷ 138 ∷ 86 ∷ 9 ∷ 92 ∷ 22 ∷ 8 ∷ 140 ∷ 1 ∷ [])) ≡ Err (flaw_at section.Rules 0 0 kind.Rule))
    × (stored_in (long_file (4 ∷ 82 ∷ 138 ∷ 84 ∷ 13 ∷ 92 ∷ 22 ∷ 8 ∷ 140 ∷ 1 ∷ [])) ≡ Err (flaw_at section.Rules 0 1 kind.Rule))
unfolding stored_in stored_after outline_after header_at version_at fields_at sizes_at symbols_at number_at field_at signed_at told_at wide_at items_at object_in value_in rules_in layers_in layer_rule_in blocks_in object_blocks_in further_in block_in log_in entry_in anchor_in number_in digits_in zeros_in low_in bits_in low_bits number_of ones_of is_rule_flawed entry_of values_of expansion_of table_of_rules displacement_of bounding_box_of box_round cells_along move_of side_moves ring_moves ring_of_code width_for
rules_are_refused = (refl, refl, refl)

blocks_are_refused :
    (stored_in (short_file (4 ∷ 218 ∷ 1 ∷ [])) ≡ Err (flaw_at section.Starts 0 0 kind.Offset))
    × (stored_in (short_file (4 ∷ 250 ∷ 8 ∷ [])) ≡ Err (flaw_at section.Log 0 0 kind.OffGrid))
    × (stored_in (short_file (4 ∷ 58 ∷ [])) ≡ Err (flaw_at section.Anchors 0 0 kind.Short))
    × (stored_in (long_file (4 ∷ 82 ∷ 138 ∷ 84 ∷ 9 ∷ 172 ∷ 178 ∷ 64 ∷ 96 ∷ 12 ∷ [])) ≡ Err (flaw_at section.Log 1 1 kind.Duration))
    × (stored_in (long_file (4 ∷ 82 ∷ 138 ∷ 84 ∷ 9 ∷ 92 ∷ 22 ∷ 8 ∷ 8 ∷ 12 ∷ [])) ≡ Err (flaw_at section.Gaps 1 1 kind.Offset))
    × (stored_in (long_file (4 ∷ 82 ∷ 138 ∷ 84 ∷ 9 ∷ 92 ∷ 22 ∷ 8 ∷ 141 ∷ 1 ∷ [])) ≡ Err (flaw_at section.Log 0 3 kind.Duration))
    × (stored_in (long_file (4 ∷ 82 ∷ 138 ∷ 84 ∷ 9 ∷ 92 ∷ 22 ∷ 8 ∷ 140 ∷ [])) ≡ Err (flaw_at section.Anchors 1 1 kind.Short))
unfolding stored_in stored_after outline_after header_at version_at fields_at sizes_at symbols_at number_at field_at signed_at told_at wide_at items_at object_in value_in rules_in layers_in layer_rule_in blocks_in object_blocks_in further_in block_in log_in entry_in anchor_in number_in digits_in zeros_in low_in bits_in low_bits number_of ones_of is_rule_flawed entry_of values_of expansion_of table_of_rules displacement_of bounding_box_of box_round cells_along move_of side_moves ring_moves ring_of_code width_for
blocks_are_refused = (refl, refl, refl, refl, refl, refl, refl)

ends_are_refused :
    (stored_in (short_file (4 ∷ 58 ∷ 24 ∷ [])) ≡ Err (flaw_at section.End 0 0 kind.Pad))
    × (stored_in (short_file (4 ∷ 58 ∷ 8 ∷ 0 ∷ [])) ≡ Err (flaw_at section.End 0 0 kind.Extra))
unfolding stored_in stored_after outline_after header_at version_at fields_at sizes_at symbols_at number_at field_at signed_at told_at wide_at items_at object_in value_in rules_in layers_in layer_rule_in blocks_in object_blocks_in further_in block_in log_in entry_in anchor_in number_in digits_in zeros_in low_in bits_in low_bits number_of ones_of is_rule_flawed entry_of values_of expansion_of table_of_rules displacement_of bounding_box_of box_round cells_along move_of side_moves ring_moves ring_of_code width_for
ends_are_refused = (refl, refl)

-- an object without a block
abbrev absent : Outline
absent = record {
  frame = short.frame;
  objects = 7 ∷ [];
  alphabet = 2 ∷ 3 ∷ [];
  rules = [];
  blocks = [];
  symbols = [];
}

absent_is_read : stored_in (short_file (4 ∷ 218 ∷ 0 ∷ [])) ≡ Ok (stored.Outline absent)
unfolding stored_in stored_after outline_after header_at version_at fields_at sizes_at symbols_at number_at field_at signed_at told_at wide_at items_at object_in value_in rules_in layers_in layer_rule_in blocks_in object_blocks_in further_in block_in log_in entry_in anchor_in number_in digits_in zeros_in low_in bits_in low_bits number_of ones_of is_rule_flawed entry_of values_of expansion_of table_of_rules displacement_of bounding_box_of box_round cells_along move_of side_moves ring_moves ring_of_code width_for
absent_is_read = refl

absent_is_written : outline_bytes absent ≡ short_file (4 ∷ 218 ∷ 0 ∷ [])
unfolding outline_bytes header_bytes fields_bytes size_bytes symbols_bytes outline_bits short_bytes long_bytes signed_bytes gap_bits told_bits gaps_from rules_bits layer_bits layer_rules symbols_under rule_numbers blocks_bits object_bits end_bits anchor_bits when_bits number_bits delta_bits lg count_leading_zeros low_bits bit_bytes bytes_filled number_of table_of_rules code_of side_moves ring_moves ring_of_code move_of displacement_of log_values values_of expansion_of width_for
absent_is_written = refl

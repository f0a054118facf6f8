-- A file that holds an outline: its bytes, and what they hold after the header, or their first flaw.
use Rattle.std.specs.Prelude.{None, ℕ, ◌%◌, ◌/◌, nat_lt, Bool, List, [], ◌++◌, length, take, Result, Ok, Err, if◌then◌else◌}
use Rattle.std.specs.List.{range_with_len}
use Rattle.packed_bits.specs.Bits.{ones_of}
use Rattle.bit_stream.specs.Bytes.{bits_in, bit_bytes}
use Rattle.rule_store.specs.View.{RulesView, rules_with}
use Rattle.track_types.specs.declared.flaw.Flaw.{Flaw}
use Rattle.track_types.specs.declared.flaw.Kind.TheVariants.{Pad, Extra}
use Rattle.track_types.specs.declared.flaw.Section.TheVariants.{End}
use Rattle.track_types.specs.declared.frame.Frame.{Frame}
use Rattle.index_format.specs.Spelling.{header_bytes}
use Rattle.index_format.specs.Fields.{◌>>=◌, flaw_at, items_at}
use Rattle.index_format.specs.OutlineLists.{object_in, value_in, gap_bits}
use Rattle.index_format.specs.OutlineRules.{rules_in, rules_bits}
use Rattle.index_format.specs.OutlineBlocks.{blocks_in, blocks_bits}
use Rattle.index_format.specs.declared.header.Header as headers
use Rattle.index_format.specs.declared.outline.Outline.{Outline}

-- the rest of the last byte is 0, and nothing follows
abbrev pub ended_bits : {A : Type 0} → List Bool → A → Result A Flaw
ended_bits bits value =
    if nat_lt 0 (ones_of (take (length bits % 8) bits)) then Err (flaw_at End 0 0 Pad)
    else if nat_lt 0 (length bits / 8) then Err (flaw_at End 0 0 Extra)
    else Ok value

-- what rules are judged over: values, the height of the grid and the instants of a period
abbrev pub frame_rules : Frame → List ℕ → List (ℕ × ℕ) → RulesView
frame_rules frame alphabet rules = rules_with alphabet rules [] frame.height frame.period

-- the outline that all bytes after the header hold
unfoldable pub outline_after : headers.Header → List ℕ → Result Outline Flaw
outline_after header bytes = do
  objects ← items_at object_in header.objects [] (bits_in bytes)
  alphabet ← items_at (value_in header.frame.height) header.alphabet [] objects.1
  rules ← rules_in (frame_rules header.frame alphabet.0 []) header.rules alphabet.1
  told ← blocks_in header.objects header.frame (frame_rules header.frame alphabet.0 rules.0) 0
      (record { blocks = []; symbols = []; next = 0; last = None }) rules.1
  ended_bits told.1 (record {
    frame = header.frame;
    objects = objects.0;
    alphabet = alphabet.0;
    rules = rules.0;
    blocks = told.0.blocks;
    symbols = told.0.symbols;
  })

-- the header: the frame, and how long the lists are, but for the symbols
abbrev pub outline_header : Outline → headers.Header
outline_header outline = record {
  frame = outline.frame;
  objects = length outline.objects;
  alphabet = length outline.alphabet;
  rules = length outline.rules;
  symbols = 0;
}

-- the string of bits after it
unfoldable pub outline_bits : Outline → List Bool
outline_bits outline =
    gap_bits outline.objects ++ gap_bits outline.alphabet ++ rules_bits (length outline.alphabet) outline.rules
    ++ blocks_bits outline.frame (frame_rules outline.frame outline.alphabet outline.rules) outline.blocks
    (range_with_len 0 (length outline.objects)) outline.symbols

-- the file
unfoldable pub outline_bytes : Outline → List ℕ
outline_bytes outline = header_bytes (outline_header outline) ++ bit_bytes (outline_bits outline)

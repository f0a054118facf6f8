-- The blocks of an outline: put and read again, and what is read of them.
use Rattle.std.proofs.Common.{◌≡◌, ◌≤◌, ℕ, Bool, List, ◌++◌, length, None, Ok, arith}
use Rattle.std.specs.Prelude.{All}
use Rattle.std.specs.List.{range_with_len}
use Rattle.rule_store.specs.Flaws.{rule_flaw}
use Rattle.track_types.specs.Frame.{IsFrame}
use Rattle.track_types.specs.Limits.{limit_of}
use Rattle.track_types.specs.declared.frame.Frame.{Frame}
use Rattle.track_types.specs.declared.limit.LimitKind.TheVariants.{Symbols}
use Rattle.index_format.specs.OutlineBlocks.{Told, blocks_bits, blocks_in}
use Rattle.index_format.specs.OutlineFile.{frame_rules}
use Rattle.index_format.specs.IsOutline.{IsOutline, blocks_with_logs}
use Rattle.index_format.specs.BlockSteps.{IsPlaced, nothing_told}
use Rattle.index_format.specs.declared.outline.Outline.{Outline}
use Rattle.index_format.proofs.BlockLaws.{ReadsOn, blocks-again, placed}
use Rattle.index_format.proofs.EntryLaws.{AreLasting, lasting-rules}
use Rattle.index_format.proofs.ObjectLaws.{BlocksOnly, blocks-only}

-- the symbols of values and rules that are few, and of which no rule is flawed
pub lasting-frame_rules : (frame : Frame) (alphabet : List ℕ) (rules : List (ℕ × ℕ)) → length alphabet ≤ limit_of Symbols
    → length rules ≤ limit_of Symbols → rule_flaw (frame_rules frame alphabet rules) ≡ None → AreLasting (frame_rules frame alphabet rules)
lasting-frame_rules frame alphabet rules few_values few_rules sound =
    lasting-rules (frame_rules frame alphabet rules) sound (omega (arith, few_values, few_rules))

module _ (outline : Outline) (is : IsOutline outline) where
  -- the blocks have their logs, as they have to where they are put
  pub outline-placed : All (IsPlaced outline.frame.height (frame_rules outline.frame outline.alphabet outline.rules))
      (blocks_with_logs outline.blocks outline.symbols)
  outline-placed = placed outline.frame (frame_rules outline.frame outline.alphabet outline.rules) (length outline.objects)
      (blocks_with_logs outline.blocks outline.symbols) is.each

  -- they are read again
  pub outline_blocks-again : (rest : List Bool) → ReadsOn nothing_told outline.blocks outline.symbols rest
      (blocks_in (length outline.objects) outline.frame (frame_rules outline.frame outline.alphabet outline.rules) 0 nothing_told
      (blocks_bits outline.frame (frame_rules outline.frame outline.alphabet outline.rules) outline.blocks
      (range_with_len 0 (length outline.objects)) outline.symbols ++ rest))
  outline_blocks-again rest =
      blocks-again outline.frame is.header.periods.some is.header.limit is.header.short (frame_rules outline.frame outline.alphabet outline.rules)
      (lasting-frame_rules outline.frame outline.alphabet outline.rules is.few_values is.few_rules is.near_rules) (length outline.objects)
      outline.blocks outline.symbols rest is.each is.order is.symbols is.header.long is.few_symbols

-- what is read over a frame, values and rules of an outline meets what an outline's blocks meet, and spells the bits that were taken
pub outline_blocks-only : (frame : Frame) (alphabet : List ℕ) (rules : List (ℕ × ℕ)) (objects : ℕ) (bits : List Bool) (done : Told) (rest : List Bool)
    → IsFrame frame → length alphabet ≤ limit_of Symbols → length rules ≤ limit_of Symbols
    → rule_flaw (frame_rules frame alphabet rules) ≡ None
    → blocks_in objects frame (frame_rules frame alphabet rules) 0 nothing_told bits ≡ Ok (done, rest)
    → BlocksOnly frame (frame_rules frame alphabet rules) objects bits done rest
outline_blocks-only frame alphabet rules objects bits done rest header few_values few_rules sound read =
    blocks-only frame header.periods.some header.limit (frame_rules frame alphabet rules)
    (lasting-frame_rules frame alphabet rules few_values few_rules sound) objects bits done rest read

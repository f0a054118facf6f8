-- The outline that parts have: their blocks by object, then period.
use Rattle.std.specs.Prelude.{ℕ, ◌-ℤ◌, List, length, map, Option}
use Rattle.std.specs.List.{filter_map, flat_map, range_with_len}
use Rattle.std.specs.Option.{option_map}
use Rattle.track_types.specs.declared.cell.Cell.{Cell}
use Rattle.track_types.specs.declared.frame.Frame.{Frame}
use Rattle.track_types.specs.declared.parts.Parts.{Parts}
use Rattle.rule_store.specs.Cells.{cell_with}
use Rattle.index_format.specs.declared.outline.Outline.{Outline}
use Rattle.index_format.specs.declared.outline.OutlineBlock.{OutlineBlock}
use Rattle.snapshots.specs.Parts.{log_in, numbers_in, snapshot_in}
use Rattle.snapshots.specs.View.{block_of}
use Rattle.snapshots.specs.declared.anchored.Anchored.{Anchored}

-- a cell, counted from the base of the grid
abbrev pub cell_in : Frame → Cell → Cell
cell_in frame cell = cell_with (cell.x -ℤ frame.base.x) (cell.y -ℤ frame.base.y)

-- a block of a period, as an outline has it
abbrev pub outline_block : Frame → ℕ → Anchored → OutlineBlock
outline_block frame number block = record {
  period = number;
  index = block.index;
  offset = block.offset;
  cell = cell_in frame block.cell;
  length = block.len;
}

-- a block of a period with the symbols of its log
abbrev pub logged_block : Parts → ℕ → Anchored → OutlineBlock × List ℕ
logged_block parts number block = (outline_block parts.frame number block, log_in parts block)

-- the block of an object in a period with its log, if it has one
unfoldable pub block_in : Parts → ℕ → ℕ → Option (OutlineBlock × List ℕ)
block_in parts number index = option_map (logged_block parts number) (block_of (snapshot_in parts number) index)

-- the blocks of an object with their logs, by period
abbrev pub blocks_of_object : Parts → ℕ → List (OutlineBlock × List ℕ)
blocks_of_object parts index = filter_map (λ number. block_in parts number index) (numbers_in parts.frame)

-- all blocks with their logs, by object, then period
unfoldable pub logged_blocks : Parts → List (OutlineBlock × List ℕ)
logged_blocks parts = flat_map (blocks_of_object parts) (range_with_len 0 (length parts.objects))

-- the outline of parts
unfoldable pub outline_of : Parts → Outline
outline_of parts = record {
  frame = parts.frame;
  objects = parts.objects;
  alphabet = parts.alphabet;
  rules = parts.rules;
  blocks = map (λ it. it.0) (logged_blocks parts);
  symbols = flat_map (λ it. it.1) (logged_blocks parts);
}

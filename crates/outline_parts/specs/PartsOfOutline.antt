-- The parts that an outline opens to: the same blocks by period, then object, and what follows from them.
use Rattle.std.specs.Prelude.{ℕ, ◌==◌, List, length, map, filter}
use Rattle.std.specs.List.{flat_map}
use Rattle.track_types.specs.declared.cell.Cell.{Cell}
use Rattle.track_types.specs.declared.frame.Frame.{Frame}
use Rattle.track_types.specs.declared.parts.Parts.{Parts}
use Rattle.rule_store.specs.Cells.{moved}
use Rattle.movement_log.specs.declared.head.Head.{Head}
use Rattle.index_format.specs.IsOutline.{blocks_with_logs}
use Rattle.index_format.specs.declared.outline.Outline.{Outline}
use Rattle.index_format.specs.declared.outline.OutlineBlock.{OutlineBlock}
use Rattle.snapshots.specs.Parts.{numbers_in}
use Rattle.chart_parts.specs.PeriodWith.{period_of_blocks}

-- a cell that is counted from the base of the grid
abbrev pub cell_from : Frame → Cell → Cell
cell_from frame cell = moved cell (frame.base.x, frame.base.y)

-- the header of a block
abbrev pub head_of : Frame → OutlineBlock → Head
head_of frame block = record {
  period = block.period;
  index = block.index;
  offset = block.offset;
  cell = cell_from frame block.cell;
}

-- the header of a block, and the length of its log
abbrev pub headed : Frame → OutlineBlock → Head × ℕ
headed frame block = (head_of frame block, block.length)

-- the blocks of a period, among blocks with their logs
abbrev pub logged_in : ℕ → List (OutlineBlock × List ℕ) → List (OutlineBlock × List ℕ)
logged_in number blocks = filter (λ it. it.0.period == number) blocks

-- the symbols of a period's logs, by object
abbrev pub symbols_in : List (OutlineBlock × List ℕ) → ℕ → List ℕ
symbols_in blocks number = flat_map (λ it. it.1) (logged_in number blocks)

-- the parts of an outline
unfoldable pub parts_of_outline : Outline → Parts
parts_of_outline outline = record {
  frame = outline.frame;
  objects = outline.objects;
  alphabet = outline.alphabet;
  rules = outline.rules;
  periods = map (period_of_blocks outline.frame (length outline.objects) (map (headed outline.frame) outline.blocks))
      (numbers_in outline.frame);
  symbols = flat_map (symbols_in (blocks_with_logs outline.blocks outline.symbols)) (numbers_in outline.frame);
}

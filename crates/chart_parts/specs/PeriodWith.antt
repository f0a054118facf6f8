-- The parts of a period, by the headers of its blocks and the lengths of their logs.
use Rattle.std.specs.Prelude.{ℕ, ◌+◌, ◌<◌, ◌≤◌, ◌==◌, Bool, not, ◌||◌, All, List, [], ◌∷◌, length, map, filter, pos, slice_index, slice_index_or}
use Rattle.std.specs.List.{list_any, prefix_len, range_with_len}
use Rattle.track_types.specs.Chart.{ChartView}
use Rattle.track_types.specs.Frame.{periods_of}
use Rattle.track_types.specs.declared.frame.Frame.{Frame}
use Rattle.track_types.specs.declared.cell.Cell.{Cell}
use Rattle.track_types.specs.declared.limit.TheConstants.{MAX_OBJECTS}
use Rattle.track_types.specs.declared.period_parts.PeriodParts.{PeriodParts}
use Rattle.k2_tree.specs.Morton.{IsGrid, IsInGrid, morton_of}
use Rattle.k2_tree.specs.TreeBits.{morton_bits}
use Rattle.movement_log.specs.Logs.{logs_of}
use Rattle.repair_grammar.specs.Blocks.{joined_blocks}
use Rattle.snapshots.specs.View.{widths_in}
use Rattle.movement_log.specs.declared.head.Head.{Head}
use Rattle.chart_parts.specs.Leaf.{LeafView}
use Rattle.chart_parts.specs.LeafOrder.{distinct_codes, ends_of, leaf_codes, leaf_order}
use Rattle.chart_parts.specs.PartsOf.{grammar_of}
use Rattle.chart_parts.specs.declared.writing.Blocks.{Blocks}

-- the blocks of a chart: their alphabet, their headers, and the rules and logs of the grammar
abbrev pub chart_blocks : ChartView → Blocks
chart_blocks chart = record {
  alphabet = (logs_of chart).alphabet;
  heads = (logs_of chart).heads;
  rules = (grammar_of chart).rules;
  logs = joined_blocks (grammar_of chart).blocks;
}

-- the Morton numbers of the cells of headers
abbrev pub codes_of_heads : Frame → List Head → List ℕ
codes_of_heads frame heads = map (λ head. morton_of frame.height frame.base head.cell) heads

-- for each of so many objects, whether one of the headers is that of a block of the object
abbrev pub presence_of : ℕ → List Head → List Bool
presence_of objects heads = map (λ index. list_any (λ head. head.index == index) heads) (range_with_len 0 objects)

-- the parts of a period whose blocks have these headers and logs of these lengths
abbrev pub period_with : Frame → ℕ → List Head → List ℕ → PeriodParts
period_with frame objects heads lengths = record {
  present = presence_of objects heads;
  offsets = map (λ head. head.offset) heads;
  tree = morton_bits (widths_in frame) (distinct_codes (codes_of_heads frame heads));
  lasts = ends_of (leaf_codes (codes_of_heads frame heads));
  perm = leaf_order (codes_of_heads frame heads);
  lengths = lengths;
}

-- the parts of a period without a block
abbrev pub without_blocks : List Bool → PeriodParts
without_blocks present =
    record { present = present; offsets = []; tree = []; lasts = []; perm = []; lengths = [] }

-- the blocks of a period, among blocks that are each a header and the length of a log
abbrev pub blocks_of_period : ℕ → List (Head × ℕ) → List (Head × ℕ)
blocks_of_period number blocks = filter (λ block. block.0.period == number) blocks

-- the parts of a period, from the headers and the logs' lengths of all blocks
unfoldable pub period_of_blocks : Frame → ℕ → List (Head × ℕ) → ℕ → PeriodParts
period_of_blocks frame objects blocks number = period_with frame objects
    (map (λ block. block.0) (blocks_of_period number blocks)) (map (λ block. block.1) (blocks_of_period number blocks))

-- how many headers of a period there are before one of another
abbrev pub period_run_length : ℕ → List Head → ℕ
period_run_length number heads = prefix_len (λ head. head.period == number) heads

-- headers of a period's blocks, with cells in the header's grid
pub record ArePlaced (frame : Frame) (heads : List Head) : Type 0 where
  pub grid : IsGrid frame.height frame.base
  pub few : length heads ≤ MAX_OBJECTS
  pub inside : All (λ head. IsInGrid frame.height frame.base head.cell) heads

-- the numbers are at least n, and none is below the one before
abbrev pub Climbs : ℕ → List ℕ → Type 0
Climbs n [] = Unit {0}
Climbs n (x ∷ xs) = (n ≤ x) × Climbs x xs

-- a block is of one of so many objects, with a cell in the header's grid
pub record IsBlockOf (frame : Frame) (objects : ℕ) (block : Head × ℕ) : Type 0 where
  pub index : block.0.index < objects
  pub inside : IsInGrid frame.height frame.base block.0.cell

-- the blocks come by period, and there are few in each
pub record AreBlocksByPeriod (frame : Frame) (objects : ℕ) (blocks : List (Head × ℕ)) : Type 0 where
  pub grid : IsGrid frame.height frame.base
  pub by_period : Climbs 0 (map (λ block. block.0.period) blocks)
  pub few : (number : ℕ) → number < periods_of frame → length (blocks_of_period number blocks) ≤ MAX_OBJECTS
  pub each : All (IsBlockOf frame objects) blocks

-- what a place past the end reads
abbrev pub no_head : Head
no_head = record { period = 0; index = 0; offset = 0; cell = record { x = pos 0; y = pos 0 } }

-- the cell of a header at a place
abbrev pub cell_of_head : List Head → ℕ → Cell
cell_of_head heads place = (slice_index_or heads place no_head).cell

-- the leaf of the block at a place
abbrev pub block_leaf : Frame → List Head → ℕ → LeafView
block_leaf frame heads place = record {
  code = morton_of frame.height frame.base (cell_of_head heads place);
  place = place;
}

-- whether the number at a place differs from the next one, or is the last
abbrev pub is_end : List ℕ → ℕ → Bool
is_end codes place =
    (place + 1 == length codes) || not (slice_index codes place == slice_index codes (place + 1))

-- Blocks on the way: a header beside the place of its anchor among the rows.
use Rattle.std.specs.Prelude.{◌≡◌, ℕ, ◌+◌, ◌*◌, ◌<◌, pos, ◌-ℤ◌, unsigned_abs, Bool, ◌&&◌, ◌==◌, nat_le, All, List, length, map, slice_index_or}
use Rattle.std.specs.List.{position_or_len}
use Rattle.track_types.specs.Chart.{ChartView}
use Rattle.track_types.specs.Quantities.{anchors_of, first_of, log_length, objects_of, period_of, span_of}
use Rattle.track_types.specs.declared.row.Row.{Row}
use Rattle.movement_log.specs.Logs.{head_of}
use Rattle.movement_log.specs.declared.blocks.Block.{Block}

-- what a place past the end reads
abbrev pub no_row : Row
no_row = record { object = 0; instant = pos 0; cell = record { x = pos 0; y = pos 0 } }

-- the row at a place
abbrev pub row_at : List Row → ℕ → Row
row_at rows at = slice_index_or rows at no_row

-- the anchor of a block
abbrev pub anchor_in : List Row → Block → Row
anchor_in rows block = row_at rows block.at

-- the place of an object among the objects of rows
abbrev pub place_of_object : List Row → ℕ → ℕ
place_of_object rows object = position_or_len (λ other. other == object) (objects_of rows)

-- the place of the object of a row
abbrev pub object_place : List Row → ℕ → ℕ
object_place rows at = place_of_object rows (row_at rows at).object

-- the anchors of all blocks, by object, then period
abbrev pub anchors_by_object : ChartView → List Row
anchors_by_object chart = anchors_of (first_of chart.rows) chart.period chart.rows

-- how many terminals the log of an anchor's block has
abbrev pub log_length_of : ChartView → Row → ℕ
log_length_of chart anchor = log_length (first_of chart.rows) (span_of chart.rows) chart.period anchor

-- how many instants come before the end of a row's period, from the first on
abbrev pub period_end_of : ChartView → Row → ℕ
period_end_of chart row = (period_of (first_of chart.rows) chart.period row + 1) * chart.period

-- whether a later row is of an anchor's object, and among so many instants after the anchor's
abbrev pub is_in_log : ℕ → Row → Row → Bool
is_in_log len anchor row =
    (row.object == anchor.object) && nat_le (unsigned_abs (row.instant -ℤ anchor.instant)) len

-- a block's anchor is a row of the chart, and it has its anchor's header
pub record IsBlockIn (chart : ChartView) (block : Block) : Type 0 where
  pub within : block.at < length chart.rows
  pub head : block.head ≡ head_of chart (anchor_in chart.rows block)

-- blocks with these anchors
pub record AreBlocks (chart : ChartView) (rows : List Row) (blocks : List Block) : Type 0 where
  pub anchors : map (anchor_in chart.rows) blocks ≡ rows
  pub each : All (IsBlockIn chart) blocks

-- The first flaw of logs that leave the grid, or do not last to the end of their period.
use Rattle.std.specs.Prelude.{ℕ, ◌+◌, ◌-◌, ◌==◌, ◌^◌, ◌&&◌, not, ℤ, pos, ◌+ℤ◌, Bool, false, if◌then◌else◌}
use Rattle.std.specs.Prelude.{List, length, find, slice_index, Option, None, Some}
use Rattle.std.specs.Int.Signed.{le_z, lt_z}
use Rattle.std.specs.List.{range_with_len}
use Rattle.std.specs.Option.{option_map, option_or}
use Rattle.list_laws.specs.First.{first_given}
use Rattle.track_types.specs.Flaws.{flaw_in}
use Rattle.track_types.specs.Frame.{instants_in}
use Rattle.track_types.specs.declared.cell.Cell.{Cell}
use Rattle.track_types.specs.declared.cell_box.CellBox.{CellBox}
use Rattle.track_types.specs.declared.flaw.Flaw.{Flaw}
use Rattle.track_types.specs.declared.flaw.Kind.TheVariants as kind
use Rattle.track_types.specs.declared.flaw.Section.TheVariants.{Lengths, Log}
use Rattle.track_types.specs.declared.frame.Frame.{Frame}
use Rattle.track_types.specs.declared.parts.Parts.{Parts}
use Rattle.rule_store.specs.View.{RulesView}
use Rattle.rule_store.specs.Entry.{entry_of}
use Rattle.log_bounds.specs.Bounds.{cell_before, duration_of_log}
use Rattle.snapshots.specs.View.{SnapshotView, all_blocks, rank_in}
use Rattle.snapshots.specs.Parts.{block_log, numbers_in, rules_in, snapshot_in}
use Rattle.snapshots.specs.declared.anchored.Anchored.{Anchored}

-- numbers from one to another, moved by an amount, lie in a row of 2 ^ height numbers from its least one on
abbrev pub is_along : ℕ → ℤ → ℤ → ℤ → ℤ → Bool
is_along height least amount first last =
    le_z least (amount +ℤ first) && lt_z (amount +ℤ last) (least +ℤ pos (2 ^ height))

-- the columns of a box, moved to a cell, are in the grid
abbrev pub has_columns : Frame → Cell → CellBox → Bool
has_columns frame cell hull = is_along frame.height frame.base.x cell.x hull.x1 hull.x2

-- the lines of a box, moved to a cell, are in the grid
abbrev pub has_lines : Frame → Cell → CellBox → Bool
has_lines frame cell hull = is_along frame.height frame.base.y cell.y hull.y1 hull.y2

-- a box, moved to a cell, passes the grid
abbrev pub passes_grid : Frame → Cell → Option CellBox → Bool
passes_grid frame cell None = false
passes_grid frame cell (Some hull) = not (has_columns frame cell hull && has_lines frame cell hull)

-- the placed box of a log's symbol passes the grid
unfoldable pub is_off_grid : Frame → RulesView → Cell → List ℕ → ℕ → Bool
is_off_grid frame rules cell log place =
    passes_grid frame (cell_before rules cell log place) (entry_of rules (slice_index log place)).hull

-- the place of the first symbol whose placed box passes the grid
unfoldable pub off_grid_at : Frame → RulesView → Cell → List ℕ → Option ℕ
off_grid_at frame rules cell log = find (is_off_grid frame rules cell log) (range_with_len 0 (length log))

-- how many instants follow a block's anchor in its period
abbrev pub instants_after : Frame → ℕ → Anchored → ℕ
instants_after frame number block = instants_in frame number - 1 - block.offset

-- the flaw of a log that does not last as long as its period, by the block's place among those of the period
abbrev pub duration_flaw : Frame → RulesView → ℕ → ℕ → Anchored → Option Flaw
duration_flaw frame rules number rank block =
    if duration_of_log rules (block_log rules block) == instants_after frame number block then None
    else Some (flaw_in number Lengths kind.Duration rank)

-- the first flaw of a block's log: a placed box that passes the grid comes before a wrong duration
unfoldable pub log_flaw : Frame → RulesView → ℕ → ℕ → Anchored → Option Flaw
log_flaw frame rules number rank block = option_or
    (option_map (λ place. flaw_in number Log kind.OffGrid (block.from + place))
    (off_grid_at frame rules block.cell (block_log rules block)))
    (duration_flaw frame rules number rank block)

-- the first flaw of a block of a snapshot
abbrev pub block_flaw : RulesView → SnapshotView → Anchored → Option Flaw
block_flaw rules view block = log_flaw view.frame rules view.number (rank_in view block.index) block

-- the first flaw of a snapshot's blocks, by object
unfoldable pub blocks_flaw : RulesView → SnapshotView → Option Flaw
blocks_flaw rules view = first_given (block_flaw rules view) (all_blocks view)

-- the first flaw of a period's blocks
abbrev pub join_flaw : Parts → ℕ → Option Flaw
join_flaw parts number = blocks_flaw (rules_in parts) (snapshot_in parts number)

-- the first flaw of all blocks, by period, then object
unfoldable pub logs_flaw : Parts → Option Flaw
logs_flaw parts = first_given (join_flaw parts) (numbers_in parts.frame)

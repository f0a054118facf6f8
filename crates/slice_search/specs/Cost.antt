-- How many reads the search of a slice makes at most.
use Rattle.std.specs.Prelude.{ℕ, ◌+◌, ◌*◌, ℤ, Bool, filter, Option, None, Some}
use Rattle.std.specs.List.{sum_by}
use Rattle.track_types.specs.Region.{intersects_region}
use Rattle.track_types.specs.declared.cell_box.CellBox.{CellBox}
use Rattle.track_types.specs.declared.parts.Parts.{Parts}
use Rattle.track_types.specs.declared.region.Region.{Region}
use Rattle.k2_tree.specs.Pruning.{square_count}
use Rattle.log_cursor.specs.Start.{start_at}
use Rattle.log_cursor.specs.Touching.{touching_count}
use Rattle.snapshots.specs.View.{all_blocks, tree_in}
use Rattle.snapshots.specs.Cost.{block_reads, square_reads}
use Rattle.snapshots.specs.Parts.{anchored_at, log_in, period_in, rules_in, snapshot_in}
use Rattle.snapshots.specs.Speed.{reach_of}
use Rattle.snapshots.specs.Tracks.{cell_box}
use Rattle.snapshots.specs.declared.anchored.Anchored.{Anchored}

-- whether an object with its anchor in a box of a period may be in a region at an instant
abbrev pub is_within_reach : Parts → ℕ → ℤ → Region → CellBox → Bool
is_within_reach parts number instant region area = intersects_region region (reach_of parts number instant area)

-- whether the object of a block may be in a region at an instant
abbrev pub is_block_within_reach : Parts → ℕ → ℤ → Region → Anchored → Bool
is_block_within_reach parts number instant region block =
    is_within_reach parts number instant region (cell_box block.cell)

-- the reads of a block of a period in which the first hit of a window is sought: the block, the symbols of its log, and
-- the rules that touch the region
abbrev pub hit_cost : Parts → ℕ → ℤ → ℤ → Region → Anchored → ℕ
hit_cost parts number from to region block = block_reads + (block.len + touching_count (rules_in parts)
    (start_at (anchored_at parts.frame number block) block.cell) (log_in parts block) from to region)

-- the reads of a period in which the first hits of a window are sought, by the reach at an instant: of the squares and
-- the blocks that may have one
unfoldable pub period_search_cost : Parts → ℕ → ℤ → ℤ → Region → ℤ → ℕ
period_search_cost parts number from to region instant =
    square_reads * square_count (is_within_reach parts number instant region) (tree_in (snapshot_in parts number))
    + sum_by (hit_cost parts number from to region)
    (filter (is_block_within_reach parts number instant region) (all_blocks (snapshot_in parts number)))

-- the reads of a slice at an instant of a period, if it is one of the index's
abbrev pub slice_cost_in : Parts → ℤ → Region → Option ℕ → ℕ
slice_cost_in parts instant region None = 0
slice_cost_in parts instant region (Some number) =
    period_search_cost parts number instant instant region instant

-- the reads of a slice
unfoldable pub slice_cost : Parts → ℤ → Region → ℕ
slice_cost parts instant region = slice_cost_in parts instant region (period_in parts.frame instant)

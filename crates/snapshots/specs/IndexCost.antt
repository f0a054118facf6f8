-- How many reads it takes at most to open an index, and to answer what asks for one object.
use Rattle.std.specs.Prelude.{ℕ, ◌+◌, ◌*◌, ℤ, Bool, ◌&&◌, length, filter, Option, None, Some}
use Rattle.std.specs.Int.Signed.{le_z}
use Rattle.std.specs.List.{sum_by}
use Rattle.track_types.specs.declared.frame.Frame.{Frame}
use Rattle.track_types.specs.declared.parts.Parts.{Parts}
use Rattle.k2_tree.specs.TreeSquares.{squares_of}
use Rattle.rule_store.specs.Expansion.{depth_in}
use Rattle.rule_store.specs.Nodes.{block_budget}
use Rattle.snapshots.specs.View.{SnapshotView, all_blocks, block_of, tree_in}
use Rattle.snapshots.specs.Cost.{block_reads, lookup_reads, square_reads}
use Rattle.snapshots.specs.Parts.{anchored_at, end_in, first_in, index_in, log_in, numbers_in, period_in, rules_in, snapshot_in}
use Rattle.snapshots.specs.declared.anchored.Anchored.{Anchored}

-- the reads by which all blocks of a snapshot are found: for each square that is not empty, and for each block
unfoldable pub blocks_reads : SnapshotView → ℕ
blocks_reads view = square_reads * length (squares_of (tree_in view)) + block_reads * length (all_blocks view)

-- the reads of opening: of each symbol of all logs, and of the blocks of all snapshots
unfoldable pub open_cost : Parts → ℕ
open_cost parts =
    length parts.symbols + sum_by (λ number. blocks_reads (snapshot_in parts number)) (numbers_in parts.frame)

-- the reads of a log by which a cell is sought: each symbol of it, and a rule at each depth
abbrev pub seek_cost : Parts → Option Anchored → ℕ
seek_cost parts None = 0
seek_cost parts (Some block) = block.len + depth_in (rules_in parts)

-- the reads of where an object is at an instant of a period
abbrev pub position_cost_in : Parts → Option ℕ → Option ℕ → ℕ
position_cost_in parts None number = 0
position_cost_in parts (Some index) None = 0
position_cost_in parts (Some index) (Some number) =
    lookup_reads + seek_cost parts (block_of (snapshot_in parts number) index)

-- the reads of where an object is at an instant
unfoldable pub position_cost : Parts → ℕ → ℤ → ℕ
position_cost parts object instant =
    position_cost_in parts (index_in parts.objects object) (period_in parts.frame instant)

-- whether an instant of the period is in the window
abbrev pub is_met : Frame → ℤ → ℤ → ℕ → Bool
is_met frame from to number = le_z from to && (le_z (first_in frame number) to && le_z from (end_in frame number))

-- the reads of a walk over a block in a window: each symbol of its log, and the opened rules
abbrev pub walk_cost : Parts → ℤ → ℤ → ℕ → Option Anchored → ℕ
walk_cost parts from to number None = 0
walk_cost parts from to number (Some block) =
    block_budget (rules_in parts) (anchored_at parts.frame number block) (log_in parts block) from to

-- the reads of a period of a path
abbrev pub period_cost : Parts → ℕ → ℤ → ℤ → ℕ → ℕ
period_cost parts index from to number =
    lookup_reads + walk_cost parts from to number (block_of (snapshot_in parts number) index)

-- the reads of an object's stops in a window, by its place
abbrev pub path_cost_of : Parts → Option ℕ → ℤ → ℤ → ℕ
path_cost_of parts None from to = 0
path_cost_of parts (Some index) from to =
    sum_by (period_cost parts index from to) (filter (is_met parts.frame from to) (numbers_in parts.frame))

-- the reads of an object's stops in a window
unfoldable pub path_cost : Parts → ℕ → ℤ → ℤ → ℕ
path_cost parts object from to = path_cost_of parts (index_in parts.objects object) from to

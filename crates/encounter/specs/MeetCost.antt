-- How many reads it takes at most to find in an index when two objects first met.
use Rattle.std.specs.Prelude.{ℕ, ◌+◌, ◌*◌, ℤ, filter, Option, Some, None}
use Rattle.std.specs.List.{sum_by}
use Rattle.track_types.specs.declared.parts.Parts.{Parts}
use Rattle.log_cursor.specs.Start.{start_at}
use Rattle.snapshots.specs.Cost.{lookup_reads}
use Rattle.snapshots.specs.IndexCost.{is_met}
use Rattle.snapshots.specs.Parts.{anchored_at, index_in, log_in, numbers_in, rules_in, snapshot_in}
use Rattle.snapshots.specs.View.{block_of}
use Rattle.snapshots.specs.declared.anchored.Anchored.{Anchored}
use Rattle.encounter.specs.Span.{BlockTree, close_count, log_tree}

-- the parse trees of a block of a period
abbrev pub block_tree : Parts → ℕ → Anchored → BlockTree
block_tree parts number block =
    log_tree (rules_in parts) (start_at (anchored_at parts.frame number block) block.cell) (log_in parts block)

-- the reads of going through two blocks of a period: of both stored logs, and of the rules that are close to a node of
-- the other block
abbrev pub pair_cost : Parts → ℤ → ℤ → ℕ → ℕ → Option Anchored → Option Anchored → ℕ
pair_cost parts from to reach number None right = 0
pair_cost parts from to reach number (Some left) None = 0
pair_cost parts from to reach number (Some left) (Some right) =
    (left.len + right.len) + close_count from to reach (block_tree parts number left) (block_tree parts number right)

-- the reads of a period, in which both blocks are looked for
abbrev pub period_meet_cost : Parts → ℕ → ℕ → ℤ → ℤ → ℕ → ℕ → ℕ
period_meet_cost parts left right from to reach number =
    2 * lookup_reads + pair_cost parts from to reach number (block_of (snapshot_in parts number) left)
    (block_of (snapshot_in parts number) right)

-- the reads of a meeting of two objects, by their places: of each period that the window meets, and none where an object
-- is unknown
abbrev pub meet_cost_of : Parts → Option ℕ → Option ℕ → ℤ → ℤ → ℕ → ℕ
meet_cost_of parts None right from to reach = 0
meet_cost_of parts (Some left) None from to reach = 0
meet_cost_of parts (Some left) (Some right) from to reach =
    sum_by (period_meet_cost parts left right from to reach)
    (filter (is_met parts.frame from to) (numbers_in parts.frame))

-- the reads of a meeting of two objects
unfoldable pub meet_cost : Parts → ℕ → ℕ → ℤ → ℤ → ℕ → ℕ
meet_cost parts left right from to reach =
    meet_cost_of parts (index_in parts.objects left) (index_in parts.objects right) from to reach

-- the reads up to an instant, of two objects by their places: of the periods of the window that begin by then
abbrev pub meet_cost_until_of : Parts → Option ℕ → Option ℕ → ℤ → ℤ → ℕ → ℤ → ℕ
meet_cost_until_of parts None right from to reach until = 0
meet_cost_until_of parts (Some left) None from to reach until = 0
meet_cost_until_of parts (Some left) (Some right) from to reach until =
    sum_by (period_meet_cost parts left right from to reach)
    (filter (is_met parts.frame from until) (numbers_in parts.frame))

-- the reads of two objects that meet at an instant of the window: of each period up to that of the instant
unfoldable pub meet_cost_until : Parts → ℕ → ℕ → ℤ → ℤ → ℕ → ℤ → ℕ
meet_cost_until parts left right from to reach until =
    meet_cost_until_of parts (index_in parts.objects left) (index_in parts.objects right) from to reach until

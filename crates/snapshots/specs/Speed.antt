-- How fast objects move away from their anchors, and how far they get.
use Rattle.std.specs.Prelude.{ℕ, ◌*◌, ◌<◌, ◌≤◌, max, ℤ, All, map, fold}
use Rattle.track_types.specs.Frame.{periods_of}
use Rattle.track_types.specs.Widening.{widened}
use Rattle.track_types.specs.declared.cell_box.CellBox.{CellBox}
use Rattle.track_types.specs.declared.parts.Parts.{Parts}
use Rattle.track_types.specs.declared.stop.Stop.{Stop}
use Rattle.k2_tree.specs.Morton.{IsInGrid}
use Rattle.rule_store.specs.View.{RulesView}
use Rattle.snapshots.specs.View.{SnapshotView, all_blocks}
use Rattle.log_bounds.specs.Bounds.{gap, log_speed}
use Rattle.snapshots.specs.Parts.{first_in, block_log, rules_in, snapshot_in, stops_of}
use Rattle.snapshots.specs.declared.anchored.Anchored.{Anchored}

-- the speed of a block
abbrev pub block_speed : RulesView → Anchored → ℕ
block_speed rules block = log_speed rules block.cell (block_log rules block)

-- the greatest speed of a snapshot's blocks
unfoldable pub blocks_speed : RulesView → SnapshotView → ℕ
blocks_speed rules view = fold max 0 (map (block_speed rules) (all_blocks view))

-- the speed of a period
abbrev pub speed_of : Parts → ℕ → ℕ
speed_of parts number = blocks_speed (rules_in parts) (snapshot_in parts number)

-- how far an object gets from its anchor's cell by an instant of a period, in each axis
abbrev pub width_at : Parts → ℕ → ℤ → ℕ
width_at parts number instant = speed_of parts number * gap instant (first_in parts.frame number)

-- the reach of a box at an instant: all cells in which an object with its anchor in the box may be
abbrev pub reach_of : Parts → ℕ → ℤ → CellBox → CellBox
reach_of parts number instant area = widened (width_at parts number instant) area

-- a stop is as near to its block's anchor as the speed says, and in the grid
pub record IsReached (parts : Parts) (number : ℕ) (block : Anchored) (stop : Stop) : Type 0 where
  pub column : gap stop.cell.x block.cell.x ≤ width_at parts number stop.instant
  pub line : gap stop.cell.y block.cell.y ≤ width_at parts number stop.instant
  pub inside : IsInGrid parts.frame.height parts.frame.base stop.cell

-- all stops of a period's blocks are so
abbrev pub AreReached : Parts → ℕ → Type 0
AreReached parts number =
    All (λ block. All (IsReached parts number block) (stops_of parts number block)) (all_blocks (snapshot_in parts number))

-- Within reach: all stops of an index are so.
abbrev pub IsWithinReach : Parts → Type 0
IsWithinReach parts = (number : ℕ) → number < periods_of parts.frame → AreReached parts number

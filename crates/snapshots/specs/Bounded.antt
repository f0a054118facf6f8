-- What bounds the logs of each period, where that is known before they are joined.
use Rattle.std.specs.Prelude.{◌≡◌, ℕ, ◌<◌, ◌-ℤ◌, List, length, map, slice_index_or}
use Rattle.std.specs.Global.{Vec}
use Rattle.track_types.specs.Frame.{periods_of}
use Rattle.track_types.specs.declared.cell.Cell.{Cell}
use Rattle.track_types.specs.declared.frame.Frame.{Frame}
use Rattle.track_types.specs.declared.parts.Parts.{Parts}
use Rattle.rule_store.specs.Cells.{cell_with}
use Rattle.rule_store.specs.View.{RulesView}
use Rattle.log_bounds.specs.Bounds.{bounds_of}
use Rattle.log_bounds.specs.declared.bounds.LogBounds.{LogBounds}
use Rattle.snapshots.specs.Parts.{block_log, rules_in, snapshot_in}
use Rattle.snapshots.specs.View.{SnapshotView, all_blocks}
use Rattle.snapshots.specs.declared.anchored.Anchored.{Anchored}

-- the cell of a block's anchor, counted from the base of the grid
abbrev pub cell_from_base : Frame → Anchored → Cell
cell_from_base frame block = cell_with (block.cell.x -ℤ frame.base.x) (block.cell.y -ℤ frame.base.y)

-- the bounds of a block's log, where cells are counted from the base of the grid
abbrev pub bounds_from_base : Frame → RulesView → Anchored → LogBounds
bounds_from_base frame rules block = bounds_of rules (cell_from_base frame block) (block_log rules block)

-- the bounds of the logs of a snapshot's blocks, by object
abbrev pub blocks_bounds : RulesView → SnapshotView → List LogBounds
blocks_bounds rules view = map (bounds_from_base view.frame rules) (all_blocks view)

-- bounds begin at the anchors of a snapshot's blocks, by object
abbrev pub AreFromAnchors : SnapshotView → List LogBounds → Type 0
AreFromAnchors view bounds = map (λ (log : LogBounds). log.from) bounds ≡ map (cell_from_base view.frame) (all_blocks view)

-- those of a period
abbrev pub period_bounds : Parts → ℕ → List LogBounds
period_bounds parts number = blocks_bounds (rules_in parts) (snapshot_in parts number)

-- those of each period
pub record AreBounds (parts : Parts) (bounds : List (Vec LogBounds)) : Type 0 where
  pub long : length bounds ≡ periods_of parts.frame
  pub each : (number : ℕ) (of : Vec LogBounds) → number < periods_of parts.frame
      → (slice_index_or bounds number of).items ≡ period_bounds parts number

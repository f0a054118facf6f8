-- The tracks of a period's blocks: the box of all cells of each, and what is left of a walk over those that a search
-- may want.
use Rattle.std.specs.Prelude.{ℕ, Bool, true, ◌≡◌, ◌&&◌, All, List, length, map}
use Rattle.std.specs.List.{range_with_len}
pub use Rattle.track_types.specs.Boxes.{cell_box}
use Rattle.track_types.specs.Region.{in_box}
use Rattle.track_types.specs.declared.cell_box.CellBox.{CellBox}
use Rattle.track_types.specs.declared.parts.Parts.{Parts}
use Rattle.track_types.specs.declared.stop.Stop.{Stop}
use Rattle.rule_store.specs.View.{RulesView}
use Rattle.log_bounds.specs.Bounds.{log_box}
use Rattle.snapshots.specs.Parts.{block_log, rules_in, snapshot_in, stops_of}
use Rattle.snapshots.specs.View.{SnapshotView, all_blocks, block_at}
use Rattle.snapshots.specs.declared.anchored.Anchored.{Anchored}

-- the box of a block's track: the least one with its anchor's cell and the placed boxes of its log
abbrev pub track_box : RulesView → Anchored → CellBox
track_box rules block = log_box rules block.cell (block_log rules block)

-- all blocks of the period in leaf order
abbrev pub blocks_by_leaf : SnapshotView → List Anchored
blocks_by_leaf view = map (block_at view) (range_with_len 0 (length view.parts.perm))

-- whether a block may hold what is sought: its anchor's cell passes the test of squares, and its track the test of
-- boxes
abbrev pub may_hold : (CellBox → Bool) → (CellBox → Bool) → RulesView → Anchored → Bool
may_hold squares boxes rules block = squares (cell_box block.cell) && boxes (track_box rules block)

-- all stops of a block are in the box of its track
abbrev pub IsOnTrack : Parts → ℕ → Anchored → Type 0
IsOnTrack parts number block =
    All (λ (stop : Stop). in_box (track_box (rules_in parts) block) stop.cell ≡ true) (stops_of parts number block)

-- all stops of a period's blocks are in the boxes of their tracks
abbrev pub AreOnTracks : Parts → ℕ → Type 0
AreOnTracks parts number = All (IsOnTrack parts number) (all_blocks (snapshot_in parts number))

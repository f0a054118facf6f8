-- Which reads of an index a position needs, of rules only those that hold its instant, and a path, of rules only those that it opens.
use Rattle.std.specs.Prelude.{ℕ, ℤ, Bool, false, ◌&&◌, ◌||◌, Option, None, Some}
use Rattle.std.specs.List.{list_any}
use Rattle.step_count.specs.Reads.{Read, ofRule}
use Rattle.track_types.specs.Frame.{period_in}
use Rattle.track_types.specs.declared.cell.Cell.{Cell}
use Rattle.track_types.specs.declared.cell_box.CellBox.{CellBox}
use Rattle.track_types.specs.declared.parts.Parts.{Parts}
use Rattle.log_cursor.specs.Needs.{search_needs}
use Rattle.log_cursor.specs.Start.{start_at}
use Rattle.log_cursor.specs.Touching.{holding_rule}
use Rattle.log_cursor.specs.Turn.{has_hull, opening_rule}
use Rattle.snapshots.specs.IndexCost.{is_met}
use Rattle.snapshots.specs.Needs.{block_places, is_of_block, needs_in, object_needs_at}
use Rattle.snapshots.specs.Parts.{anchored_at, index_in, log_in, numbers_in, rules_in, snapshot_in}
use Rattle.snapshots.specs.View.{block_of}
use Rattle.snapshots.specs.declared.anchored.Anchored.{Anchored}

-- a rule holds an instant in the log of a block of a period, if there is a block
abbrev pub seek_rule : Parts → ℕ → ℤ → Option Anchored → ℕ → Bool
seek_rule parts number instant None rule = false
seek_rule parts number instant (Some block) rule = holding_rule (rules_in parts)
    (start_at (anchored_at parts.frame number block) block.cell) (log_in parts block) instant rule

-- the reads of a block's log by which the cell at an instant is sought
abbrev pub seek_needs : Parts → ℕ → ℤ → Option Anchored → Read → Bool
seek_needs parts number instant block = search_needs (block_places block) (seek_rule parts number instant block)

-- a rule holds an instant in the log of an object's block of a period, by the places of both
abbrev pub position_rule : Parts → Option ℕ → Option ℕ → ℤ → ℕ → Bool
position_rule parts None number instant rule = false
position_rule parts (Some index) None instant rule = false
position_rule parts (Some index) (Some number) instant rule =
    seek_rule parts number instant (block_of (snapshot_in parts number) index) rule

-- the reads of where an object is at an instant: of the period of the instant, of the symbols of the object's log there, and
-- of the rules that hold the instant in it
abbrev pub position_needs : Parts → ℕ → ℤ → Read → Bool
position_needs parts object instant (ofRule rule) =
    position_rule parts (index_in parts.objects object) (period_in parts.frame instant) instant rule
position_needs parts object instant other = object_needs_at parts object instant other

-- a rule is opened in the log of a block of a period by a walk over a window with such a test, if there is a block
abbrev pub window_rule : (Cell → Option CellBox → Bool) → Parts → ℤ → ℤ → ℕ → Option Anchored → ℕ → Bool
window_rule may parts from to number None rule = false
window_rule may parts from to number (Some block) rule = opening_rule (rules_in parts) may from to
    (start_at (anchored_at parts.frame number block) block.cell) (log_in parts block) rule

-- a rule is opened so in the log of one of an object's blocks of some periods
unfoldable pub track_rule : (Cell → Option CellBox → Bool) → Parts → (ℕ → Bool) → ℤ → ℤ → Option ℕ → ℕ → Bool
track_rule may parts periods from to None rule = false
track_rule may parts periods from to (Some index) rule = list_any (λ number. periods number
    && window_rule may parts from to number (block_of (snapshot_in parts number) index) rule) (numbers_in parts.frame)

-- the reads of an object's track in some periods
abbrev pub track_needs : (Cell → Option CellBox → Bool) → Parts → (ℕ → Bool) → ℤ → ℤ → Option ℕ → Read → Bool
track_needs may parts periods from to index (ofRule rule) = track_rule may parts periods from to index rule
track_needs may parts periods from to index other = needs_in parts.frame periods (is_of_block parts index) other

-- the reads of an object's path in a window
abbrev pub path_needs_of : Parts → ℕ → ℤ → ℤ → Read → Bool
path_needs_of parts object from to =
    track_needs has_hull parts (is_met parts.frame from to) from to (index_in parts.objects object)

-- a place is among those of the logs of two objects' blocks of a period
abbrev pub is_of_pair : Parts → Option ℕ → Option ℕ → ℕ → ℕ → Bool
is_of_pair parts left right number place = is_of_block parts left number place || is_of_block parts right number place

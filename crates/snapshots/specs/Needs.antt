-- Which reads a question about an index needs.
use Rattle.std.specs.Prelude.{ℕ, ◌+◌, ◌==◌, ℤ, Bool, true, false, ◌&&◌, sum, Option, None, Some}
use Rattle.std.specs.List.{list_any}
use Rattle.step_count.specs.Reads.{Read, ofPeriod, ofRule, ofSymbol}
use Rattle.track_types.specs.Frame.{period_in}
use Rattle.track_types.specs.declared.frame.Frame.{Frame}
use Rattle.track_types.specs.declared.parts.Parts.{Parts}
use Rattle.rule_store.specs.Needs.{is_among}
use Rattle.snapshots.specs.Parts.{index_in, numbers_in, snapshot_in}
use Rattle.snapshots.specs.View.{SnapshotView, block_of}
use Rattle.snapshots.specs.declared.anchored.Anchored.{Anchored}

-- where the symbols of a period's logs stand among all: from a first place to before another
abbrev pub log_places : SnapshotView → ℕ × ℕ
log_places view = (view.start, view.start + sum view.parts.lengths)

-- where the symbols of a block's log stand, if there is a block
abbrev pub block_places : Option Anchored → ℕ × ℕ
block_places None = (0, 0)
block_places (Some block) = (block.from, block.from + block.len)

-- the reads of some periods: of what is kept of them, and of their stored symbols as far as a test passes them by period
-- and place; and those of all rules
abbrev pub needs_in : Frame → (ℕ → Bool) → (ℕ → ℕ → Bool) → Read → Bool
needs_in frame periods symbols (ofPeriod period) = periods period
needs_in frame periods symbols (ofRule rule) = true
needs_in frame periods symbols (ofSymbol place) =
    list_any (λ number. periods number && symbols number place) (numbers_in frame)

-- a place is among those of the logs of a period
abbrev pub is_of_logs : Parts → ℕ → ℕ → Bool
is_of_logs parts number place = is_among (log_places (snapshot_in parts number)) place

-- a place is among those of the log of an object's block of a period, by the object's place among all objects
abbrev pub is_of_block : Parts → Option ℕ → ℕ → ℕ → Bool
is_of_block parts None number place = false
is_of_block parts (Some index) number place = is_among (block_places (block_of (snapshot_in parts number) index)) place

-- a period is the one that was found
abbrev pub is_found : Option ℕ → ℕ → Bool
is_found None period = false
is_found (Some found) period = period == found

-- the reads of the period of an instant, and of its logs
abbrev pub needs_at : Parts → ℤ → Read → Bool
needs_at parts instant = needs_in parts.frame (is_found (period_in parts.frame instant)) (is_of_logs parts)

-- the reads of the period of an instant, and of the log of an object there
abbrev pub object_needs_at : Parts → ℕ → ℤ → Read → Bool
object_needs_at parts object instant =
    needs_in parts.frame (is_found (period_in parts.frame instant)) (is_of_block parts (index_in parts.objects object))

-- Which reads the searches of a region need of an index: of rules only those that touch the region.
use Rattle.std.specs.Prelude.{ℕ, ℤ, Bool, ◌&&◌}
use Rattle.std.specs.List.{list_any}
use Rattle.step_count.specs.Reads.{Read, ofPeriod, ofRule, ofSymbol}
use Rattle.track_types.specs.Frame.{period_in}
use Rattle.track_types.specs.declared.parts.Parts.{Parts}
use Rattle.track_types.specs.declared.region.Region.{Region}
use Rattle.log_cursor.specs.Needs.{search_needs}
use Rattle.log_cursor.specs.Start.{start_at}
use Rattle.log_cursor.specs.Touching.{touching_rule}
use Rattle.snapshots.specs.IndexCost.{is_met}
use Rattle.snapshots.specs.Needs.{is_found, is_of_logs, log_places}
use Rattle.snapshots.specs.Parts.{anchored_at, log_in, numbers_in, rules_in, snapshot_in}
use Rattle.snapshots.specs.View.{all_blocks}
use Rattle.snapshots.specs.declared.anchored.Anchored.{Anchored}

-- a rule stands for a node of a block's log that touches a region in a window
abbrev pub block_rule : Parts → ℕ → ℤ → ℤ → Region → Anchored → ℕ → Bool
block_rule parts number from to region block rule = touching_rule (rules_in parts)
    (start_at (anchored_at parts.frame number block) block.cell) (log_in parts block) from to region rule

-- it does so of some block of a period
unfoldable pub period_rule : Parts → ℕ → ℤ → ℤ → Region → ℕ → Bool
period_rule parts number from to region rule =
    list_any (λ block. block_rule parts number from to region block rule) (all_blocks (snapshot_in parts number))

-- the reads of the logs of a period in which a window and a region are searched
abbrev pub period_needs : Parts → ℕ → ℤ → ℤ → Region → Read → Bool
period_needs parts number from to region =
    search_needs (log_places (snapshot_in parts number)) (period_rule parts number from to region)

-- the reads of some periods in which a window and a region are searched: of what is kept of them, of their stored symbols,
-- and of the rules that touch the region there in the window
abbrev pub region_needs : Parts → (ℕ → Bool) → ℤ → ℤ → Region → Read → Bool
region_needs parts periods from to region (ofPeriod period) = periods period
region_needs parts periods from to region (ofRule rule) =
    list_any (λ number. periods number && period_rule parts number from to region rule) (numbers_in parts.frame)
region_needs parts periods from to region (ofSymbol place) =
    list_any (λ number. periods number && is_of_logs parts number place) (numbers_in parts.frame)

-- the reads of a slice: of the period of its instant
abbrev pub slice_needs : Parts → ℤ → Region → Read → Bool
slice_needs parts instant region =
    region_needs parts (is_found (period_in parts.frame instant)) instant instant region

-- the reads of an interval: of the periods that its window meets
abbrev pub interval_needs : Parts → ℤ → ℤ → Region → Read → Bool
interval_needs parts from to region = region_needs parts (is_met parts.frame from to) from to region

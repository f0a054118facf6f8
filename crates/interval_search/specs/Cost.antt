-- How many reads the search of an interval makes at most.
use Rattle.std.specs.Prelude.{ℕ, ℤ, filter}
use Rattle.std.specs.List.{sum_by}
use Rattle.track_types.specs.declared.parts.Parts.{Parts}
use Rattle.track_types.specs.declared.region.Region.{Region}
use Rattle.snapshots.specs.IndexCost.{is_met}
use Rattle.snapshots.specs.Parts.{numbers_in}
use Rattle.slice_search.specs.Cost.{period_search_cost}
use Rattle.slice_search.specs.Sought.{latest_in}

-- the reads of a period in which the window's first hits are sought, by the reach at the window's last instant in it
abbrev pub window_cost : Parts → ℤ → ℤ → Region → ℕ → ℕ
window_cost parts from to region number =
    period_search_cost parts number from to region (latest_in parts.frame number to)

-- the reads of an interval: of each period that the window meets
unfoldable pub interval_cost : Parts → ℤ → ℤ → Region → ℕ
interval_cost parts from to region =
    sum_by (window_cost parts from to region) (filter (is_met parts.frame from to) (numbers_in parts.frame))

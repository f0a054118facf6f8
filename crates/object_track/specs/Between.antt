-- The stops of an object in the periods from one to before another, and what they cost.
use Rattle.std.specs.Prelude.{ℕ, ◌-◌, ℤ, List}
use Rattle.std.specs.List.{flat_map, range_with_len, sum_by}
use Rattle.track_types.specs.declared.parts.Parts.{Parts}
use Rattle.track_types.specs.declared.stop.Stop.{Stop}
use Rattle.rule_store.specs.Log.{in_window}
use Rattle.snapshots.specs.IndexCost.{period_cost}
use Rattle.snapshots.specs.Parts.{stops_in}

-- the stops of an object in a window, in the periods from one to before another
unfoldable pub stops_between : Parts → ℕ → ℤ → ℤ → ℕ → ℕ → List Stop
stops_between parts index from to next behind =
    flat_map (λ number. in_window from to (stops_in parts index number)) (range_with_len next (behind - next))

-- the reads that a path costs in the periods from one to before another
unfoldable pub cost_between : Parts → ℕ → ℤ → ℤ → ℕ → ℕ → ℕ
cost_between parts index from to next behind =
    sum_by (period_cost parts index from to) (range_with_len next (behind - next))

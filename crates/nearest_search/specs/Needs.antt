-- Which reads of an index the nearest need: of rules only those that hold their instant.
use Rattle.std.specs.Prelude.{ℕ, ℤ, Bool, length, Option, Some}
use Rattle.std.specs.List.{list_any, range_with_len}
use Rattle.step_count.specs.Reads.{Read, ofRule}
use Rattle.track_types.specs.Frame.{period_in}
use Rattle.track_types.specs.declared.parts.Parts.{Parts}
use Rattle.log_cursor.specs.Needs.{search_needs}
use Rattle.snapshots.specs.Needs.{log_places, needs_at}
use Rattle.snapshots.specs.Parts.{snapshot_in}
use Rattle.object_track.specs.Needs.{position_rule}

-- a rule holds an instant in the log of some object's block of a period
unfoldable pub near_rule : Parts → Option ℕ → ℤ → ℕ → Bool
near_rule parts number instant rule =
    list_any (λ index. position_rule parts (Some index) number instant rule) (range_with_len 0 (length parts.objects))

-- the reads of the logs of a period by which cells at an instant are sought
abbrev pub period_near_needs : Parts → ℕ → ℤ → Read → Bool
period_near_needs parts number instant =
    search_needs (log_places (snapshot_in parts number)) (near_rule parts (Some number) instant)

-- the reads of the nearest at an instant: of the period of the instant, of the symbols of its logs, and of the rules that hold
-- the instant in them
abbrev pub nearest_needs : Parts → ℤ → Read → Bool
nearest_needs parts instant (ofRule rule) = near_rule parts (period_in parts.frame instant) instant rule
nearest_needs parts instant other = needs_at parts instant other

-- Meetings of two objects in the periods from one to before another.
use Rattle.std.specs.Prelude.{◌≡◌, ℕ, ◌+◌, ◌-◌, ◌<◌, ◌≤◌, ℤ, ◌≤ℤ◌, Option}
use Rattle.std.specs.List.{range_with_len, sum_by}
use Rattle.track_types.specs.Meeting.{first_together}
use Rattle.track_types.specs.declared.parts.Parts.{Parts}
use Rattle.track_types.specs.declared.stop.Stop.{Stop}
use Rattle.snapshots.specs.Parts.{first_in}
use Rattle.object_track.specs.Between.{stops_between}
use Rattle.encounter.specs.MeetCost.{period_meet_cost}

-- the first meeting in some periods, of two objects by their places
unfoldable pub meeting_between : Parts → ℕ → ℕ → ℤ → ℤ → ℕ → ℕ → ℕ → Option (Stop × Stop)
meeting_between parts left right from to reach next behind =
    first_together reach (stops_between parts left from to next behind) (stops_between parts right from to next behind)

-- the reads that some periods cost
unfoldable pub meet_cost_between : Parts → ℕ → ℕ → ℤ → ℤ → ℕ → ℕ → ℕ → ℕ
meet_cost_between parts left right from to reach next behind =
    sum_by (period_meet_cost parts left right from to reach) (range_with_len next (behind - next))

-- What a search that has found nothing has done: the same first meeting is ahead, for reads from the budget. What was read
-- are the periods so far.
pub record IsSeekingMeeting (found : Option (Stop × Stop)) (budget : ℕ) (parts : Parts) (left right : ℕ) (from to : ℤ)
    (reach start before next behind steps : ℕ) : Type 0 where
  pub same : found ≡ meeting_between parts left right from to reach next behind
  pub reads : steps + meet_cost_between parts left right from to reach next behind ≤ budget
  pub begun : start ≤ next
  pub past : steps ≤ before + meet_cost_between parts left right from to reach start next

-- What a search that found a meeting at an instant of the window has read: the periods up to one that has begun by then.
pub record EndsAt (instant : ℤ) (parts : Parts) (left right : ℕ) (from to : ℤ) (reach start behind before steps : ℕ) :
    Type 0 where
  pub last : ℕ
  pub begun : start ≤ last
  pub within : last < behind
  pub inside : from ≤ℤ instant
  pub low : first_in parts.frame last ≤ℤ instant
  pub past : steps ≤ before + meet_cost_between parts left right from to reach start (last + 1)

-- Meetings in a window, among stops that are not all in it.
use Rattle.std.specs.Prelude.{ℕ, ℤ, Bool, ◌&&◌, List, find, Option}
use Rattle.track_types.specs.Region.{is_between}
use Rattle.track_types.specs.declared.stop.Stop.{Stop}
use Rattle.track_types.specs.Meeting.{are_together, pairs_of}

-- whether two stops are together at an instant of a window
abbrev pub have_met : ℤ → ℤ → ℕ → Stop → Stop → Bool
have_met from to reach left right = is_between from to left.instant && are_together reach left right

-- the first two stops that are together at an instant of a window
unfoldable pub meeting_among : ℤ → ℤ → ℕ → List Stop → List Stop → Option (Stop × Stop)
meeting_among from to reach lefts rights =
    find (λ pair. have_met from to reach pair.0 pair.1) (pairs_of lefts rights)

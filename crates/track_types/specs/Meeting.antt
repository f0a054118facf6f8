-- When two objects first came near each other, by looking at each pair of a row of one and a row of the other.
use Rattle.std.specs.Prelude.{ℕ, ◌*◌, ℤ, Bool, ◌&&◌, nat_le, List, map, find, Option}
use Rattle.std.specs.List.{flat_map}
use Rattle.std.specs.Option.{option_map}
use Rattle.std.specs.Ordering.{int_eq}
use Rattle.track_types.specs.ByFilter.{path_of}
use Rattle.track_types.specs.Region.{squared_distance}
use Rattle.track_types.specs.declared.row.Row.{Row}
use Rattle.track_types.specs.declared.stop.Stop.{Stop}
use Rattle.track_types.specs.declared.meeting.Meeting.{Meeting}

-- whether two stops are at one instant, within a distance of each other
abbrev pub are_together : ℕ → Stop → Stop → Bool
are_together reach left right =
    int_eq left.instant right.instant && nat_le (squared_distance left.cell right.cell) (reach * reach)

-- each stop of the first with each stop of the second, in their order
unfoldable pub pairs_of : List Stop → List Stop → List (Stop × Stop)
pairs_of lefts rights = flat_map (λ left. map (λ right. (left, right)) rights) lefts

-- the first two stops that are together
unfoldable pub first_together : ℕ → List Stop → List Stop → Option (Stop × Stop)
first_together reach lefts rights = find (λ pair. are_together reach pair.0 pair.1) (pairs_of lefts rights)

-- the meeting of two stops that are together
abbrev pub meeting_at : Stop × Stop → Meeting
meeting_at pair = record { instant = pair.0.instant; left = pair.0.cell; right = pair.1.cell }

-- the first meeting of two objects in a window: rows ascend by instant, so it is that of the least
unfoldable pub meeting_of : List Row → ℕ → ℕ → ℤ → ℤ → ℕ → Option Meeting
meeting_of rows left right from to reach =
    option_map meeting_at (first_together reach (path_of rows left from to) (path_of rows right from to))

-- What is left of the walk of a path with a tail.
use Rattle.std.specs.Prelude.{ℤ, Bool, false, List, map, Option, None, Some}
use Rattle.std.specs.Int.Signed.{lt_z}
use Rattle.std.specs.Ordering.{int_eq}
use Rattle.track_types.specs.ByFilter.{stop_of}
use Rattle.track_types.specs.declared.row.Row.{Row}
use Rattle.track_types.specs.declared.stop.Stop.{Stop}
use Rattle.path_union.specs.Walk.{stops_of_both}
pub use Rattle.path_union.specs.Walk.{stop_order}

-- the stops of a tail's rows and others, by instant; if both have an instant, the tail's
abbrev pub stops_with : List Row → List Stop → List Stop
stops_with rows others = stops_of_both (map stop_of rows) others

-- there is a stop, and it comes before an instant
abbrev pub is_before : Option Stop → ℤ → Bool
is_before None instant = false
is_before (Some stop) instant = lt_z stop.instant instant

-- there is one, and it is at the instant
abbrev pub is_at : Option Stop → ℤ → Bool
is_at None instant = false
is_at (Some stop) instant = int_eq stop.instant instant

-- The rows of two charts as one: where both have one of an object and an instant, the later counts.
use Rattle.std.specs.Prelude.{Bool, not, List, [], ◌++◌, filter, Option, None, Some}
use Rattle.std.specs.List.{list_any}
use Rattle.list_laws.specs.Ordered.{ordered}
use Rattle.track_types.specs.Chart.{ChartView}
use Rattle.track_types.specs.Row.{is_same_place, row_order}
use Rattle.track_types.specs.declared.row.Row.{Row}

-- whether rows have one of a row's object and instant
abbrev pub has_place : List Row → Row → Bool
has_place rows row = list_any (is_same_place row) rows

-- the rows for whose object and instant others have none
abbrev pub rows_beside : List Row → List Row → List Row
rows_beside others rows = filter (λ row. not (has_place others row)) rows

-- the later rows, and those of the older for whose object and instant there is no later one, by object, then instant
unfoldable pub rows_of_both : List Row → List Row → List Row
rows_of_both older later = ordered row_order (later ++ rows_beside later older)

-- the rows of a chart of later rows, if there is one
abbrev pub rows_of_tail : Option ChartView → List Row
rows_of_tail None = []
rows_of_tail (Some tail) = tail.rows

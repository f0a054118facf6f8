-- The chart of raw rows: each raw row is judged by looking at all later ones.
use Rattle.std.specs.Prelude.{ℕ, if◌then◌else◌, List, [], ◌∷◌, map}
use Rattle.std.specs.List.{list_any}
use Rattle.list_laws.specs.Ordered.{ordered}
use Rattle.track_types.specs.Chart.{ChartView, chart_with}
use Rattle.track_types.specs.Row.{is_same_place, row_order}
use Rattle.track_types.specs.declared.raw_row.RawRow.{RawRow}
use Rattle.track_types.specs.declared.row.Row.{Row}
use Rattle.gridding.specs.Floor.{floor_div}

-- a raw row's object, with the instant of its time and the cell of its place
abbrev pub gridded : ℕ → ℕ → RawRow → Row
gridded cell tick raw =
    record { object = raw.object; instant = floor_div raw.time tick; cell = record { x = floor_div raw.x cell; y = floor_div raw.y cell } }

-- the rows after which no row of the same object and instant comes
unfoldable pub last_of_each_instant : List Row → List Row
last_of_each_instant [] = []
last_of_each_instant (row ∷ later) = if list_any (is_same_place row) later then last_of_each_instant later else row ∷ last_of_each_instant later

-- the rows of the chart of raw rows, by object, then by instant
unfoldable pub chart_rows : List RawRow → ℕ → ℕ → List Row
chart_rows raws cell tick = ordered row_order (last_of_each_instant (map (gridded cell tick) raws))

-- the chart of raw rows
abbrev pub chart_of : List RawRow → ℕ → ℕ → ℕ → ChartView
chart_of raws cell tick period = chart_with (chart_rows raws cell tick) cell tick period

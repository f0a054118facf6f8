-- Why the rows of two charts have no chart together: the first cause in order.
use Rattle.std.specs.Prelude.{ℕ, ◌+◌, nat_lt, if◌then◌else◌, List, length, Option, None, Some}
use Rattle.std.specs.Option.{option_or}
use Rattle.track_types.specs.Limits.{limit_of}
use Rattle.track_types.specs.declared.limit.LimitKind.TheVariants.{Rows}
use Rattle.track_types.specs.declared.row.Row.{Row}
use Rattle.gridding.specs.GridLimit.{chart_fault}
use Rattle.gridding.specs.declared.fault.GridFault.{GridFault}
use Rattle.gridding.specs.declared.fault.GridFault.TheVariants.{Limit}

-- more rows than a chart may have: refused by the least number that is too great
abbrev pub count_fault : ℕ → Option GridFault
count_fault rows = if nat_lt (limit_of Rows) rows then Some (Limit Rows (limit_of Rows + 1)) else None

-- what is judged of rows: how many there are, and then all that is judged of the rows of a chart
abbrev pub rows_fault : List Row → ℕ → Option GridFault
rows_fault rows period = option_or (count_fault (length rows)) (chart_fault rows period)

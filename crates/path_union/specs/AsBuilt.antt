-- That the rows of two charts as one are those of all raw rows.
use Rattle.std.specs.Prelude.{◌≡◌, ℕ, List, ◌++◌}
use Rattle.track_types.specs.declared.raw_row.RawRow.{RawRow}
use Rattle.track_types.specs.declared.row.Row.{Row}
use Rattle.gridding.specs.ChartOf.{chart_rows}
use Rattle.path_union.specs.Union.{rows_of_both}

-- whatever raw rows both were gridded from, by the same settings, their rows as one are those that all of these raw
-- rows are gridded to, the older first
abbrev pub AreRowsAsBuilt : List Row → List Row → ℕ → ℕ → Type 0
AreRowsAsBuilt older later cell tick = (raws more : List RawRow)
    → older ≡ chart_rows raws cell tick
    → later ≡ chart_rows more cell tick
    → rows_of_both older later ≡ chart_rows (raws ++ more) cell tick

-- Rows that are drawn path by path.
use Rattle.std.specs.Prelude.{◌≡◌, ℕ, ◌<◌, All, List, [], ◌∷◌, ◌++◌, map, Option, None, Some}
use Rattle.track_types.specs.Near.{IsNear}
use Rattle.track_types.specs.Row.{IsAscending, row_order}
use Rattle.track_types.specs.declared.row.Row.{Row}
use Rattle.track_types.specs.declared.stop.Stop.{Stop}
use Rattle.path_union.specs.Merge.{merge_of}
use Rattle.path_union.specs.Union.{rows_of_both}
use Rattle.path_union.specs.Walk.{row_at}

-- rows by object, then instant, each at most once, whose instants may be a chart's
pub record AreTimely (rows : List Row) : Type 0 where
  pub ascending : IsAscending rows
  pub near : All (λ row. IsNear row.instant) rows

-- the object of the first of rows, if there is one
abbrev pub first_object : List Row → Option ℕ
first_object [] = None
first_object (row ∷ rows) = Some row.object

-- rows are these stops of an object, and then others, all of greater objects
pub record IsFirstPath (object : ℕ) (stops : List Stop) (rows later : List Row) : Type 0 where
  pub all : rows ≡ map (row_at object) stops ++ later
  pub greater : All (λ row. object < row.object) later

-- rows of both were drawn: with those that are left of the older and of the later they are the rows of both
pub record HasMoved (older later older_left later_left rows : List Row) : Type 0 where
  pub all : rows ++ merge_of row_order later_left older_left ≡ rows_of_both older later
  pub older_up : IsAscending older_left
  pub later_up : IsAscending later_left

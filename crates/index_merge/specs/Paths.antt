-- The paths of an index from an object on.
use Rattle.std.specs.Prelude.{ℕ, ◌-◌, List, length, drop, slice_get, Option}
use Rattle.std.specs.List.{flat_map, range_with_len, sum_by}
use Rattle.track_types.specs.declared.parts.Parts.{Parts}
use Rattle.track_types.specs.declared.row.Row.{Row}
use Rattle.snapshots.specs.Parts.{rows_in}
use Rattle.index_merge.specs.Cost.{path_cost_past, shares_cost, whole_path_cost}

-- the object at a place among those that are listed, if there is one
abbrev pub object_at : Parts → ℕ → Option ℕ
object_at parts place = slice_get parts.objects place

-- the rows of the objects from a place on
unfoldable pub rows_from : Parts → ℕ → List Row
rows_from parts place = flat_map (rows_in parts) (range_with_len place (length parts.objects - place))

-- what the paths of the objects from a place on cost
unfoldable pub cost_from : Parts → ℕ → ℕ
cost_from parts place = sum_by (whole_path_cost parts) (drop place parts.objects)

-- what the paths of the objects from a place on cost until a row is passed
abbrev pub cost_past_from : Parts → ℕ → Row → ℕ
cost_past_from parts place row =
    shares_cost (whole_path_cost parts) (path_cost_past parts) (drop place parts.objects) row

-- how many objects there are from a place on
abbrev pub count_from : Parts → ℕ → ℕ
count_from parts place = length parts.objects - place

-- Answers over rows, each by looking at all of them.
use Rattle.std.specs.Prelude.{ℕ, ℤ, Bool, ◌&&◌, ◌==◌, nat_lt, not, List, length, map, filter, Option, option_map, find}
use Rattle.std.specs.Int.Signed.{lt_z}
use Rattle.std.specs.List.{list_any}
use Rattle.std.specs.Ordering.{int_eq, is_lt, nat_cmp, ordering_then}
use Rattle.std.specs.declared.cmp.Ordering.{Ordering}
use Rattle.list_laws.specs.Ordered.{ordered}
use Rattle.track_types.specs.Region.{in_region, is_between, squared_distance}
use Rattle.track_types.specs.Row.{is_row_of}
use Rattle.track_types.specs.declared.cell.Cell.{Cell}
use Rattle.track_types.specs.declared.hit.Hit.{Hit}
use Rattle.track_types.specs.declared.near.Near.{Near}
use Rattle.track_types.specs.declared.region.Region.{Region}
use Rattle.track_types.specs.declared.row.Row.{Row}
use Rattle.track_types.specs.declared.sighting.Sighting.{Sighting}
use Rattle.track_types.specs.declared.stop.Stop.{Stop}

-- the cell of the row of an object and an instant, or none where the object is absent
abbrev pub cell_at : List Row → ℕ → ℤ → Option Cell
cell_at rows object instant = option_map (λ row. row.cell) (find (is_row_of object instant) rows)

-- whether a row is one of an object, from one instant to another, both counted
abbrev pub is_row_between : ℕ → ℤ → ℤ → Row → Bool
is_row_between object from to row = (object == row.object) && is_between from to row.instant

-- the stop that a row is
abbrev pub stop_of : Row → Stop
stop_of row = record { instant = row.instant; cell = row.cell }

-- the stops of an object from one instant to another, both counted, in the order of the rows
abbrev pub path_of : List Row → ℕ → ℤ → ℤ → List Stop
path_of rows object from to = map stop_of (filter (is_row_between object from to) rows)

-- whether a row is one of an instant
abbrev pub is_row_at : ℤ → Row → Bool
is_row_at instant row = int_eq instant row.instant

-- whether it is one of an instant, in a region
abbrev pub is_sighted : ℤ → Region → Row → Bool
is_sighted instant region row = is_row_at instant row && in_region region row.cell

-- the sighting that a row is
abbrev pub sighting_of : Row → Sighting
sighting_of row = record { object = row.object; cell = row.cell }

-- the rows of an instant in a region, in the order of the rows
unfoldable pub sightings_of : List Row → ℤ → Region → List Sighting
sightings_of rows instant region = map sighting_of (filter (is_sighted instant region) rows)

-- whether a row is one from one instant to another, both counted, in a region
abbrev pub is_hit : ℤ → ℤ → Region → Row → Bool
is_hit from to region row = is_between from to row.instant && in_region region row.cell

-- the hit that a row is
abbrev pub hit_of : Row → Hit
hit_of row = record { object = row.object; instant = row.instant; cell = row.cell }

-- whether one row is of another's object, and earlier
abbrev pub is_earlier : Row → Row → Bool
is_earlier row other = (other.object == row.object) && lt_z other.instant row.instant

-- whether a row is the first of its object among rows
abbrev pub is_first_among : List Row → Row → Bool
is_first_among rows row = not (list_any (is_earlier row) rows)

-- for each object the first row of a window in a region, in the order of the rows
unfoldable pub hits_of : List Row → ℤ → ℤ → Region → List Hit
hits_of rows from to region = let hits = filter (is_hit from to region) rows in
    map hit_of (filter (is_first_among hits) hits)

-- how near a row is to a cell
abbrev pub near_of : Cell → Row → Near
near_of cell row = record { object = row.object; cell = row.cell; dist2 = squared_distance cell row.cell }

-- the order of nearness: by squared distance, then by object
abbrev pub near_order : Near → Near → Ordering
near_order a b = ordering_then (nat_cmp a.dist2 b.dist2) (nat_cmp a.object b.object)

-- how near all rows of an instant are to a cell
unfoldable pub nears_at : List Row → ℤ → Cell → List Near
nears_at rows instant cell = map (near_of cell) (filter (is_row_at instant) rows)

-- how many of some come before one
abbrev pub count_before : List Near → Near → ℕ
count_before nears near = length (filter (λ other. is_lt (near_order other near)) nears)

-- the nearest among some, at most so many of them, in order: those before which fewer than so many come
unfoldable pub nearest_among : ℕ → List Near → List Near
nearest_among count nears = ordered near_order (filter (λ near. nat_lt (count_before nears near) count) nears)

-- the rows of an instant that are nearest to a cell, at most so many, in order
unfoldable pub nears_of : List Row → ℕ → ℤ → Cell → List Near
nears_of rows count instant cell = nearest_among count (nears_at rows instant cell)

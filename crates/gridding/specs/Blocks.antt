-- Rows in blocks, each of one object.
use Rattle.std.specs.Prelude.{◌≡◌, ℕ, suc, ◌==◌, List, [], drop, filter, map, slice_get, take, Option, Some, None}
use Rattle.std.specs.Borrow.{Bor}
use Rattle.std.specs.List.{flat_map, zip}
use Rattle.track_types.specs.declared.row.Row.{Row}
use Rattle.gridding.specs.PackedPlace.{packed_row}
use Rattle.gridding.specs.declared.packed_place.Origin.{Origin}
use Rattle.gridding.specs.declared.packed_place.PackedPlace.{PackedPlace}
use Rattle.gridding.specs.declared.track_blocks.TrackBlocks.{TrackBlocks}

-- an object, and places of its rows in the order in which they came
abbrev pub ObjectRun : Type 0
ObjectRun = ℕ × List PackedPlace

module _ (origin : Origin) where
  -- the rows of a run
  abbrev pub rows_of_run : ObjectRun → List Row
  rows_of_run run = map (packed_row origin run.0) run.1

  -- the rows of runs, run after run
  abbrev pub rows_of_runs : List ObjectRun → List Row
  rows_of_runs = flat_map rows_of_run

-- the runs of an object
abbrev pub runs_with : ℕ → List ObjectRun → List ObjectRun
runs_with object = filter (λ run. run.0 == object)

-- the rows of an object
abbrev pub rows_with : ℕ → List Row → List Row
rows_with object = filter (λ row. row.object == object)

-- where an object stands last among objects, if it does
abbrev pub IsLastOf : ℕ → List ℕ → Option ℕ → Type 0
IsLastOf object objects None = filter (λ other. other == object) objects ≡ []
IsLastOf object objects (Some place) =
    (slice_get objects place ≡ Some object) × (filter (λ other. other == object) (drop (suc place) objects) ≡ [])

-- the filled places of a block: so many, from the first on
abbrev pub filled_of : List PackedPlace × ℕ → List PackedPlace
filled_of block = take block.1 block.0

-- the runs of blocks: of each block its object and the places that are filled
unfoldable pub runs_of : TrackBlocks → List ObjectRun
runs_of tracks = zip tracks.objects.items (map filled_of (zip tracks.blocks.items tracks.lengths.items))

-- an object beside a reference to places
abbrev pub RunRef : Type 0
RunRef = ℕ × Bor (List PackedPlace)

-- the run that is referred to
abbrev pub run_in : RunRef → ObjectRun
run_in entry = (entry.0, entry.1.now)

-- the runs that are referred to
abbrev pub runs_in : List RunRef → List ObjectRun
runs_in = map run_in

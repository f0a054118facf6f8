-- The first and the last instant of a chart.
use Rattle.std.proofs.Common.{◌≡◌, ◌<◌, List, [], ◌∷◌, length, arith}
use Rattle.std.specs.Prelude.{◌≤ℤ◌}
use Rattle.std.proofs.lemmas.Int.{ints}
use Rattle.std.proofs.lemmas.List.Elements.{All-head}
use Rattle.track_types.specs.Quantities.{first_of, last_of, span_of}
use Rattle.track_types.specs.Timeline.{last_from}
use Rattle.track_types.specs.declared.row.Row.{Row}
use Rattle.track_types.proofs.QuantityLemmas.{first_of-below, last_of-above}

-- the first instant of rows is not after the last one
first-last : (rows : List Row) → 0 < length rows → first_of rows ≤ℤ last_of rows
first-last [] some = absurd (omega arith)
first-last (row ∷ rows) some =
    let low = All-head (λ r. first_of (row ∷ rows) ≤ℤ r.instant) row rows (first_of-below (row ∷ rows)) in
    let high = All-head (λ r. r.instant ≤ℤ last_of (row ∷ rows)) row rows (last_of-above (row ∷ rows)) in
    omega (arith, ints, low, high)

-- the last of so many instants, from the first on, is that of the rows
pub last_from-span_of : (rows : List Row) → 0 < length rows → last_from (first_of rows) (span_of rows) ≡ last_of rows
last_from-span_of rows some = let ordered = first-last rows some in omega (arith, ints, ordered)

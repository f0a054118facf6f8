-- How many reads each question costs at most: none for the rows of the tail, which are at hand.
use Rattle.std.specs.Prelude.{ℕ, zero, suc, ◌+◌, ◌-◌, ◌^◌, min, ℤ, if◌then◌else◌, List, length, filter, Option}
use Rattle.std.specs.List.{sum_by}
use Rattle.track_types.specs.ByFilter.{is_row_at}
use Rattle.track_types.specs.Chart.{ChartView}
use Rattle.track_types.specs.Quantities.{objects_of}
use Rattle.track_types.specs.Region.{is_between}
use Rattle.track_types.specs.declared.cell.Cell.{Cell}
use Rattle.track_types.specs.declared.hit.Hit.{Hit}
use Rattle.track_types.specs.declared.parts.Parts.{Parts}
use Rattle.track_types.specs.declared.question.Question.{Question}
use Rattle.track_types.specs.declared.question.Question.TheVariants as question
use Rattle.track_types.specs.declared.region.Region.{Region}
use Rattle.track_types.specs.declared.row.Row.{Row}
use Rattle.track_index.specs.Cost.{cost_of}
use Rattle.live_tail.specs.Hits.{is_overridden}
use Rattle.live_tail.specs.Join.{rows_of_tail}

-- the rows from one instant to another, both counted
abbrev pub rows_between : List Row → ℤ → ℤ → List Row
rows_between rows from to = filter (λ row. is_between from to row.instant) rows

-- the objects that have a row from one instant to another
abbrev pub objects_between : List Row → ℤ → ℤ → List ℕ
objects_between rows from to = objects_of (rows_between rows from to)

-- an interval: what it costs without the tail, and the path of each object that has a row of the tail in the window
unfoldable pub interval_cost_beside : (Question → ℕ) → List Row → ℤ → ℤ → Region → ℕ
interval_cost_beside cost rows from to region = cost (question.Interval from to region)
    + sum_by (λ object. cost (question.Path object from to)) (objects_between rows from to)

-- what stands of a hit: the path of its object where a tail of these rows has its instant, and else nothing
abbrev pub standing_cost : (Question → ℕ) → List Row → ℤ → ℤ → Hit → ℕ
standing_cost cost rows from to hit = if is_overridden rows hit then cost (question.Path hit.object from to) else 0

-- the count that the index is asked for: the count of the question, and one more for each row that the tail has of the instant
abbrev pub raised_count : List Row → ℕ → ℤ → ℕ
raised_count rows count instant = min (count + length (filter (is_row_at instant) rows)) (2 ^ 32 - 1)

-- the nearest: what they cost for the raised count, and nothing if none are asked for
unfoldable pub nearest_cost_beside : (Question → ℕ) → List Row → ℕ → ℤ → Cell → ℕ
nearest_cost_beside cost rows zero instant cell = 0
nearest_cost_beside cost rows (suc count) instant cell =
    cost (question.Nearest (raised_count rows (suc count) instant) instant cell)

-- what questions cost with a tail of these rows, by what they cost without
unfoldable pub cost_beside : (Question → ℕ) → List Row → Question → ℕ
cost_beside cost rows (question.Interval from to region) = interval_cost_beside cost rows from to region
cost_beside cost rows (question.Nearest count instant cell) = nearest_cost_beside cost rows count instant cell
cost_beside cost rows other = cost other

-- what a question costs with an index and a tail
abbrev pub cost_with : Parts → Option ChartView → Question → ℕ
cost_with parts tail = cost_beside (cost_of parts) (rows_of_tail tail)

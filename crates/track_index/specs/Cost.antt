-- How many reads each question costs at most, and which reads it needs.
use Rattle.std.specs.Prelude.{ℕ, ℤ, Bool, false}
use Rattle.step_count.specs.Reads.{Read}
use Rattle.track_types.specs.ByFilter.{path_of}
use Rattle.track_types.specs.StopWalk.{first_past, up_to}
use Rattle.track_types.specs.declared.parts.Parts.{Parts}
use Rattle.track_types.specs.declared.question.Question.{Question}
use Rattle.track_types.specs.declared.question.Question.TheVariants as question
use Rattle.track_types.specs.declared.stop.Stop.{Stop}
use Rattle.snapshots.specs.IndexCost.{path_cost, position_cost}
use Rattle.snapshots.specs.Parts.{chart_in}
use Rattle.object_track.specs.Needs.{path_needs_of, position_needs}
use Rattle.slice_search.specs.Cost.{slice_cost}
use Rattle.slice_search.specs.Needs.{interval_needs, slice_needs}
use Rattle.interval_search.specs.Cost.{interval_cost}
use Rattle.nearest_search.specs.Cost.{nearest_cost}
use Rattle.nearest_search.specs.Needs.{nearest_needs}

-- What a question costs. A held path costs what it costs to walk it. A question that makes no read of the index costs
-- nothing. A meeting costs nothing here, since an index alone finds none; a reader of meetings has its own cost.
unfoldable pub cost_of : Parts → Question → ℕ
cost_of parts (question.Position object instant) = position_cost parts object instant
cost_of parts (question.Path object from to) = path_cost parts object from to
cost_of parts (question.Slice instant region) = slice_cost parts instant region
cost_of parts (question.Interval from to region) = interval_cost parts from to region
cost_of parts (question.Nearest count instant cell) = nearest_cost parts count instant cell
cost_of parts (question.Hold slot object from to) = path_cost parts object from to
cost_of parts other = 0

-- What a question needs to be read: of periods only that of its instant, or those that its window meets; of stored symbols only
-- those of the logs of these periods; and rules. Where it asks for one object, the symbols are those of the object's blocks there.
-- Of rules a position and the nearest need only those that hold their instant, a slice and an interval only those that touch their
-- region, and a path only those with a box whose instants meet its window. A held path needs what it needs to walk it. A meeting
-- needs nothing here, since an index alone finds none; a reader of meetings has its own needs.
abbrev pub needs_of : Parts → Question → Read → Bool
needs_of parts (question.Position object instant) = position_needs parts object instant
needs_of parts (question.Path object from to) = path_needs_of parts object from to
needs_of parts (question.Slice instant region) = slice_needs parts instant region
needs_of parts (question.Interval from to region) = interval_needs parts from to region
needs_of parts (question.Nearest count instant cell) = nearest_needs parts instant
needs_of parts (question.Hold slot object from to) = path_needs_of parts object from to
needs_of parts other = λ read. false

-- What is read of an object's path in a window until a stop at an instant or after it is drawn: what the path costs up to
-- the first such stop, or all of it where there is none. So it is what the path costs up to an instant at which the object
-- has a row.
unfoldable pub path_cost_until : Parts → ℕ → ℤ → ℤ → ℤ → ℕ
path_cost_until parts object from to instant =
    up_to (λ (stop : Stop). path_cost parts object from stop.instant) (path_cost parts object from to)
    (first_past instant (path_of (chart_in parts).rows object from to))

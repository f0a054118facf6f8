-- What questions cost an index that also tells meetings, and which reads they need.
use Rattle.std.specs.Prelude.{ℕ, Bool}
use Rattle.step_count.specs.Reads.{Read}
use Rattle.track_types.specs.declared.parts.Parts.{Parts}
use Rattle.track_types.specs.declared.question.Question.{Question}
use Rattle.track_types.specs.declared.question.Question.TheVariants as question
use Rattle.track_index.specs.Cost.{cost_of, needs_of}
use Rattle.encounter.specs.MeetCost.{meet_cost}
use Rattle.encounter.specs.Needs.{meet_needs}

-- a meeting costs what the periods that its window meets do, and all else what it costs the index
abbrev pub meets_cost : Parts → Question → ℕ
meets_cost parts (question.Meet left right from to reach) = meet_cost parts left right from to reach
meets_cost parts other = cost_of parts other

-- a meeting needs of these periods the logs of both objects and the rules that are close there, and all else what it needs of
-- the index
abbrev pub meets_needs : Parts → Question → Read → Bool
meets_needs parts (question.Meet left right from to reach) = meet_needs parts left right from to reach
meets_needs parts other = needs_of parts other

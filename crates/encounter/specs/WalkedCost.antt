-- What questions cost an answerer that draws two paths side by side for a meeting.
use Rattle.std.specs.Prelude.{ℕ, ◌+◌, ◌||◌, Bool}
use Rattle.step_count.specs.Reads.{Read}
use Rattle.track_types.specs.declared.question.Question.{Question}
use Rattle.track_types.specs.declared.question.Question.TheVariants as question

-- a meeting costs the paths of both objects, and all else what it cost before
abbrev pub walked_cost : (Question → ℕ) → Question → ℕ
walked_cost cost (question.Meet left right from to reach) =
    cost (question.Path left from to) + cost (question.Path right from to)
walked_cost cost other = cost other

-- a meeting needs the reads of the paths of both objects, and all else what it needed before
abbrev pub walked_needs : (Question → Read → Bool) → Question → Read → Bool
walked_needs needs (question.Meet left right from to reach) =
    λ read. needs (question.Path left from to) read || needs (question.Path right from to) read
walked_needs needs other = needs other

-- What the questions of a command cost in reads.
use Rattle.std.specs.Prelude.{ℕ}
use Rattle.encounter.specs.IndexCost.{meets_cost}
use Rattle.track_types.specs.declared.parts.Parts.{Parts}
use Rattle.track_types.specs.declared.question.Question.{Question}

-- what each question costs over an index of these parts
abbrev pub question_cost : Parts → Question → ℕ
question_cost parts = meets_cost parts

use Rattle.std.proofs.Common.{take}
use Rattle.gridding.specs.Survey.{IsSurveyOf}
use Rattle.gridding.proofs.survey.Survey.of.Given as goal

-- the survey is that of the rows so far
abbrev pub invariant-loop-row : goal.invariant-loop-row
invariant-loop-row l = IsSurveyOf (take l.row-index l.rows) l.survey

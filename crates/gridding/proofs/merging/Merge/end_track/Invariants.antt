use Rattle.std.proofs.Common.{◌≡◌, ◌++◌, map, take}
use Rattle.gridding.specs.PackedPlace.{packed_row}
use Rattle.gridding.specs.Merging.{IsSurveyed}
use Rattle.gridding.specs.Survey.{IsSurveyOf}
use Rattle.gridding.proofs.merging.Merge.end_track.Given as goal

-- the places that are done are after the rows that were there, and the survey is still that of the rows
abbrev pub invariant-loop-place : goal.invariant-loop-place
invariant-loop-place l = record {
  rows : l.self.1.0.items ≡ l.initial.self.1.0.items ++ map (packed_row l.origin l.fn.self.object) (take l.place-index l.place-items);
  survey : IsSurveyed l.fn.self → IsSurveyOf l.self.1.0.items l.survey;
}

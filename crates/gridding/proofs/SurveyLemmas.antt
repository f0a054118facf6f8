-- What is found of rows one by one is what all of them have.
use Rattle.std.proofs.Common.{◌≡◌, ◌<◌, ◌^◌, List, [], ◌∷◌, ◌++◌, All, Some, length}
use Rattle.std.proofs.lemmas.List.Sums.{fold-append}
use Rattle.track_types.specs.Near.{IsRowInRange}
use Rattle.track_types.specs.Row.{IsAscending}
use Rattle.track_types.specs.declared.row.Row.{Row}
use Rattle.track_types.proofs.ExtentLemmas.{AreExtentsOf-over}
use Rattle.gridding.specs.Survey.{IsMeasureOf, IsSurveyOf, last_object}
use Rattle.gridding.specs.declared.survey.Survey.{Survey}
use Rattle.gridding.proofs.ObjectCountLemmas.{object_count-le}

-- the object of the last row
pub last_object-more : (rows : List Row) (row : Row) → last_object (rows ++ row ∷ []) ≡ Some row.object
last_object-more rows row = fold-append (λ _ other. Some other.object) _ rows (row ∷ [])

-- the survey of some rows in order and in range
pub IsMeasureOf-survey : (rows : List Row) (survey : Survey) → 0 < length rows → length rows < 2 ^ 64 →
    IsAscending rows → All IsRowInRange rows → IsSurveyOf rows survey → IsMeasureOf rows survey
IsMeasureOf-survey rows survey some few up in_range of = record {
  objects = of.objects up few;
  few = rw (of.objects up few) (object_count-le rows up);
  extents = AreExtentsOf-over rows survey.extents some in_range of.extents;
}

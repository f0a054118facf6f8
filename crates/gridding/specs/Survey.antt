-- What is found of rows that are looked at one by one, in their order.
use Rattle.std.specs.Prelude.{◌≡◌, ◌<◌, ◌≤◌, ◌^◌, ℕ, Bool, false, ◌==◌, List, fold, length, Option, Some, None}
use Rattle.track_types.specs.Extents.{AreExtentsOf, extents_over}
use Rattle.track_types.specs.Quantities.{object_count}
use Rattle.track_types.specs.Row.{IsAscending}
use Rattle.track_types.specs.declared.row.Row.{Row}
use Rattle.gridding.specs.declared.survey.Survey.{Survey}

-- whether the row before, if there was one, was of this object
abbrev pub is_object_of : Option ℕ → ℕ → Bool
is_object_of None object = false
is_object_of (Some before) object = before == object

-- the object of the last row, if there is a row
abbrev pub last_object : List Row → Option ℕ
last_object = fold (λ _ row. Some row.object) None

-- What has been found of these rows. Objects are counted where rows are in order and no more than a word can count.
pub record IsSurveyOf (rows : List Row) (survey : Survey) : Type 0 where
  pub objects : IsAscending rows → length rows < 2 ^ 64 → survey.objects ≡ object_count rows
  pub last : survey.last ≡ last_object rows
  pub extents : survey.extents ≡ extents_over rows

-- what a survey tells of some rows in order and in range
pub record IsMeasureOf (rows : List Row) (survey : Survey) : Type 0 where
  pub objects : survey.objects ≡ object_count rows
  pub few : survey.objects ≤ length rows
  pub extents : AreExtentsOf rows survey.extents

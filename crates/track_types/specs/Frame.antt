-- The header of an index: its ranges, its instants and periods, and its grid.
use Rattle.std.specs.Prelude.{ℕ, ◌-◌, ◌^◌, ◌≤◌, ℤ, pos, neg_ℤ, ◌+ℤ◌, ◌≤ℤ◌, Bool, Option}
use Rattle.track_types.specs.Boxes.{box_from}
use Rattle.track_types.specs.Limits.{IsPeriod, IsResolution, limit_of}
use Rattle.track_types.specs.Near.{IsNear}
use Rattle.track_types.specs.Spelling.{greatest_height, spelling_of, wide_levels}
use Rattle.track_types.specs.Timeline.{is_spanned, last_from, period_if, period_last, period_size, period_start, period_total}
use Rattle.track_types.specs.declared.cell_box.CellBox.{CellBox}
use Rattle.track_types.specs.declared.frame.Frame.{Frame}
use Rattle.track_types.specs.declared.limit.LimitKind.TheVariants.{Span}
use Rattle.track_types.specs.declared.limit.TheConstants.{MAX_HEIGHT, MAX_PLACE, MAX_VERSION}

-- the ranges of a header: a version has a greatest height, and the last instant, too, is at most `MAX_PLACE` away from 0
pub record IsFrame (frame : Frame) : Type 0 where
  pub known : 1 ≤ frame.version
  pub newest : frame.version ≤ MAX_VERSION
  pub periods : IsPeriod frame.period
  pub some : 1 ≤ frame.height
  pub limit : frame.height ≤ MAX_HEIGHT
  pub low : frame.height ≤ greatest_height (spelling_of frame.version)
  pub long : 1 ≤ frame.span
  pub short : frame.span ≤ limit_of Span
  pub begins : neg_ℤ (pos MAX_PLACE) ≤ℤ frame.first
  pub ends : (frame.first +ℤ pos (frame.span - 1)) ≤ℤ pos MAX_PLACE
  pub columns : IsNear frame.base.x
  pub lines : IsNear frame.base.y
  pub cells : IsResolution frame.cell
  pub ticks : IsResolution frame.tick

-- how many levels of a tree, from the top, split a square in sixteen
abbrev pub wide_of : Frame → ℕ
wide_of frame = wide_levels (spelling_of frame.version) frame.height

-- how many periods there are
abbrev pub periods_of : Frame → ℕ
periods_of frame = period_total frame.span frame.period

-- how many instants a period has
abbrev pub instants_in : Frame → ℕ → ℕ
instants_in frame number = period_size frame.span frame.period number

-- the first instant of a period
abbrev pub first_in : Frame → ℕ → ℤ
first_in frame number = period_start frame.first frame.period number

-- the last instant of a period
abbrev pub end_in : Frame → ℕ → ℤ
end_in frame number = period_last frame.first frame.span frame.period number

-- the last instant of an index
abbrev pub last_in : Frame → ℤ
last_in frame = last_from frame.first frame.span

-- the instant is one of the index's
abbrev pub is_covered : Frame → ℤ → Bool
is_covered frame instant = is_spanned frame.first frame.span instant

-- the period of an instant, if it is one of the index's
abbrev pub period_in : Frame → ℤ → Option ℕ
period_in frame instant = period_if frame.first frame.span frame.period instant

-- the box of all cells of an index's grid
abbrev pub grid_of : Frame → CellBox
grid_of frame = box_from frame.base.x frame.base.y (2 ^ frame.height - 1)

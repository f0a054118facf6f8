-- How much is read of walks and of paths until a stop or a row is passed.
use Rattle.std.specs.Prelude.{◌≡◌, ℕ, ◌+◌, ◌<◌, ◌≤◌, ℤ, List, ◌++◌, slice_get, Option, None, Some}
use Rattle.std.specs.Option.{option_to_list}
use Rattle.track_types.specs.declared.row.Row.{Row}
use Rattle.track_types.specs.declared.stop.Stop.{Stop}
pub use Rattle.track_types.specs.StopWalk.{IsDrawnInTime, is_past, unless_past, up_to}
use Rattle.path_union.specs.Walk.{left_of}

module _ {W : Type 0} where
  -- what is read of a walk, if there is one, until a stop is passed
  abbrev pub past_of : (W → ℤ → ℕ) → Option W → ℤ → ℕ
  past_of past None instant = 0
  past_of past (Some walk) instant = past walk instant

  -- what is read of a walk from which a stop was drawn ahead, until a stop is passed
  abbrev pub front_past : (W → ℤ → ℕ) → Option Stop → Option W → ℤ → ℕ
  front_past past ahead walk instant = unless_past instant ahead (past_of past walk instant)

  -- at most one stop was drawn of a walk: those that were left are that one, if it was drawn, and those that are left
  pub record IsDrawnOnce (left : W → List Stop) (before now : Option W) : Type 0 where
    pub stop : Option Stop
    pub all : left_of left before ≡ option_to_list stop ++ left_of left now

-- the first row that is one too many where so many may be
abbrev pub first_beyond : ℕ → List Row → Option Row
first_beyond limit rows = slice_get rows limit

-- The path of an object was taken from others. It is given by what is to be read of it, as a whole and until a stop is
-- passed, and by what is to be read of all paths until a row is passed, before and now. Both are within what was to be
-- read.
pub record IsTaken (object all : ℕ) (past : ℤ → ℕ) (before now : Row → ℕ) : Type 0 where
  pub own : (row : Row) → row.object ≡ object → past row.instant ≤ before row
  pub others : (row : Row) → object < row.object → all + now row ≤ before row

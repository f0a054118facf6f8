-- What bounds a log: the greatest speed of its symbols, and the box of the cells on its way.
use Rattle.std.specs.Prelude.{ℕ, ◌+◌, ◌^◌, ◌<◌, ◌≤ℤ◌, max, ℤ, pos, neg_ℤ, ◌+ℤ◌, ◌-ℤ◌, ◌<ℤ◌, unsigned_abs}
use Rattle.std.specs.Prelude.{List, [], ◌∷◌, length, take, map, fold, slice_index, Option, None, Some}
use Rattle.std.specs.Int.{div_ceil}
use Rattle.std.specs.List.{filter_map, range_with_len, sum_by}
use Rattle.std.specs.Option.{option_map}
use Rattle.track_types.specs.Boxes.{cell_box, joined_box, moved_box}
use Rattle.track_types.specs.declared.cell.Cell.{Cell}
use Rattle.track_types.specs.declared.cell_box.CellBox.{CellBox}
use Rattle.rule_store.specs.View.{RulesView}
use Rattle.rule_store.specs.Expansion.{values_of}
use Rattle.rule_store.specs.Cells.{displacement_of, moved}
use Rattle.rule_store.specs.Entry.{duration_of, entry_of}
use Rattle.log_bounds.specs.declared.bounds.LogBounds.{LogBounds}

-- the cell in which an object is after these symbols, from a cell
unfoldable pub cell_after : RulesView → Cell → List ℕ → Cell
cell_after rules cell [] = cell
cell_after rules cell (symbol ∷ log) = cell_after rules (moved cell (displacement_of (values_of rules symbol))) log

-- the cell from which a log's symbol moves on: that after the symbols before it
abbrev pub cell_before : RulesView → Cell → List ℕ → ℕ → Cell
cell_before rules cell log place = cell_after rules cell (take place log)

-- how many instants these symbols stand for
unfoldable pub duration_of_log : RulesView → List ℕ → ℕ
duration_of_log rules log = sum_by (duration_of rules) log

-- a number that a log may reach, whatever its symbols
pub record IsReachable (z : ℤ) : Type 0 where
  pub low : neg_ℤ (pos (2 ^ 60)) ≤ℤ z
  pub high : z ≤ℤ pos (2 ^ 60)

-- how far two numbers are apart
abbrev pub gap : ℤ → ℤ → ℕ
gap a b = unsigned_abs (a -ℤ b)

-- how far a cell is from the farthest cell of a box, by the greater of columns and lines (the Chebyshev distance); the box
-- is moved to another cell
abbrev pub far_of : Cell → Cell → CellBox → ℕ
far_of from cell hull = max
    (max (gap (cell.x +ℤ hull.x1) from.x) (gap (cell.x +ℤ hull.x2) from.x))
    (max (gap (cell.y +ℤ hull.y1) from.y) (gap (cell.y +ℤ hull.y2) from.y))

-- the speed at which an object gets from a cell to its farthest cell in a box in so many instants and one more
abbrev pub hull_speed : Cell → Cell → ℕ → Option CellBox → ℕ
hull_speed from cell before None = 0
hull_speed from cell before (Some hull) = div_ceil (far_of from cell hull) (before + 1)

-- the speed of a log's symbol, from the log's first cell on
abbrev pub symbol_speed : RulesView → Cell → List ℕ → ℕ → ℕ
symbol_speed rules from log place = hull_speed from (cell_before rules from log place)
    (duration_of_log rules (take place log)) (entry_of rules (slice_index log place)).hull

-- the greatest speed of a log's symbols
unfoldable pub log_speed : RulesView → Cell → List ℕ → ℕ
log_speed rules from log = fold max 0 (map (symbol_speed rules from log) (range_with_len 0 (length log)))

-- the least box with an area and with a hull, if there is one, that is moved to a cell
abbrev pub with_hull : CellBox → Cell → Option CellBox → CellBox
with_hull area cell None = area
with_hull area cell (Some hull) = joined_box area (moved_box cell hull)

-- the placed box of a log's symbol: its entry's, moved to the cell from which the symbol moves on
abbrev pub symbol_box : RulesView → Cell → List ℕ → ℕ → Option CellBox
symbol_box rules cell log place =
    option_map (moved_box (cell_before rules cell log place)) (entry_of rules (slice_index log place)).hull

-- the placed boxes of a log's first symbols
abbrev pub placed_boxes : RulesView → Cell → List ℕ → ℕ → List CellBox
placed_boxes rules cell log count = filter_map (symbol_box rules cell log) (range_with_len 0 count)

-- the least box with a log's first cell and all of its placed boxes
unfoldable pub log_box : RulesView → Cell → List ℕ → CellBox
log_box rules cell log = fold joined_box (cell_box cell) (placed_boxes rules cell log (length log))

-- the bounds from this cell, with this speed and this box
abbrev pub bounds_with : Cell → ℕ → CellBox → LogBounds
bounds_with from speed area = record { from = from; speed = speed; area = area }

-- the bounds of a log, from its first cell on
abbrev pub bounds_of : RulesView → Cell → List ℕ → LogBounds
bounds_of rules cell log = bounds_with cell (log_speed rules cell log) (log_box rules cell log)

-- a number that 32 bits hold
pub record IsWord (z : ℤ) : Type 0 where
  pub low : pos 0 ≤ℤ z
  pub high : z <ℤ pos (2 ^ 32)

-- bounds that 28 bytes hold
pub record IsPackable (bounds : LogBounds) : Type 0 where
  pub column : IsWord bounds.from.x
  pub line : IsWord bounds.from.y
  pub speed : bounds.speed < 2 ^ 32
  pub x1 : IsWord bounds.area.x1
  pub y1 : IsWord bounds.area.y1
  pub x2 : IsWord bounds.area.x2
  pub y2 : IsWord bounds.area.y2

-- Where a part of a block begins, and which blocks may be walked.
use Rattle.std.specs.Prelude.{ℕ, ◌^◌, ℤ, pos, neg_ℤ, ◌+ℤ◌, ◌≤ℤ◌, List, [], ◌∷◌, length, All, Option, Some, None, ⊤}
use Rattle.track_types.specs.Near.{IsAsked, IsCellAsked}
use Rattle.track_types.specs.declared.cell.Cell.{Cell}
use Rattle.track_types.specs.declared.cell_box.CellBox.{CellBox}
use Rattle.rule_store.specs.View.{RulesView}
use Rattle.rule_store.specs.Expansion.{values_of}
use Rattle.rule_store.specs.Cells.{cells_along, displacement_of, moved, present_in}
use Rattle.rule_store.specs.Boxes.{bounding_box_of}
use Rattle.rule_store.specs.Log.{log_values}
use Rattle.rule_store.specs.declared.entry.Entry.{Entry}
use Rattle.log_cursor.specs.declared.start.Start.{Start}

-- the place of this instant and cell
abbrev pub start_at : ℤ → Cell → Start
start_at instant cell = record { instant = instant; cell = cell }

-- where the symbol of an entry leads from a start
abbrev pub start_after : Start → Entry → Start
start_after start entry =
    start_at (start.instant +ℤ pos entry.duration) (moved start.cell (entry.dx, entry.dy))

-- where values lead from a start
abbrev pub start_past : Start → List ℕ → Start
start_past start values = start_at (start.instant +ℤ pos (length values)) (moved start.cell (displacement_of values))

-- a box, moved to the cell where its symbol begins, is at most `MAX_ASKED` away from 0
pub record IsBoxAsked (cell : Cell) (hull : CellBox) : Type 0 where
  pub x1 : IsAsked (cell.x +ℤ hull.x1)
  pub y1 : IsAsked (cell.y +ℤ hull.y1)
  pub x2 : IsAsked (cell.x +ℤ hull.x2)
  pub y2 : IsAsked (cell.y +ℤ hull.y2)

-- the placed box of a symbol, if it has one, is at most `MAX_ASKED` away from 0
abbrev pub IsHullAsked : Cell → Option CellBox → Type 0
IsHullAsked cell None = ⊤
IsHullAsked cell (Some hull) = IsBoxAsked cell hull

-- the boxes of a log's symbols, each placed where its symbol begins, are at most `MAX_ASKED` away from 0
unfoldable pub AreHullsAsked : RulesView → Cell → List ℕ → Type 0
AreHullsAsked rules cell [] = ⊤
AreHullsAsked rules cell (symbol ∷ log) =
    IsHullAsked cell (bounding_box_of (values_of rules symbol))
    × AreHullsAsked rules (moved cell (displacement_of (values_of rules symbol))) log

-- The condition of each walk over a block: its anchor's instant and cell, and the placed box of each symbol of its log,
-- are at most `MAX_ASKED` away from 0.
pub record IsPlaced (rules : RulesView) (start : Start) (log : List ℕ) : Type 0 where
  pub instant : IsAsked start.instant
  pub cell : IsCellAsked start.cell
  pub hulls : AreHullsAsked rules start.cell log

-- an instant at which a block may end: at most 2^62 away from 0
pub record IsInTime (instant : ℤ) : Type 0 where
  pub low : neg_ℤ (pos (2 ^ 62)) ≤ℤ instant
  pub high : instant ≤ℤ pos (2 ^ 62)

-- the instant and the cell of a place within a block
pub record IsStart (start : Start) : Type 0 where
  pub instant : IsInTime start.instant
  pub cell : IsCellAsked start.cell

-- values are walked from a start without leaving the numbers: all cells on the way are near, and the last instant is
-- in time
pub record IsWay (start : Start) (values : List ℕ) : Type 0 where
  pub start_is : IsStart start
  pub last : (start.instant +ℤ pos (length values)) ≤ℤ pos (2 ^ 62)
  pub cells : All IsCellAsked (present_in (cells_along start.cell values))

-- the values of a log are walked without leaving the numbers
abbrev pub IsWayOf : RulesView → Start → List ℕ → Type 0
IsWayOf rules start log = IsWay start (log_values rules log)

-- How far from 0 the times and places of rows may be, and the numbers about which searches ask.
use Rattle.std.specs.Prelude.{ℤ, pos, neg_ℤ, ◌≤ℤ◌}
use Rattle.track_types.specs.declared.cell.Cell.{Cell}
use Rattle.track_types.specs.declared.cell_box.CellBox.{CellBox}
use Rattle.track_types.specs.declared.limit.TheConstants.{MAX_ASKED, MAX_PLACE, MAX_REACH}
use Rattle.track_types.specs.declared.raw_row.RawRow.{RawRow}
use Rattle.track_types.specs.declared.row.Row.{Row}

-- at most `MAX_PLACE` away from 0, as are the times and places of rows
pub record IsNear (z : ℤ) : Type 0 where
  pub low : neg_ℤ (pos MAX_PLACE) ≤ℤ z
  pub high : z ≤ℤ pos MAX_PLACE

-- a raw row's time and place are near
pub record IsRawInRange (raw : RawRow) : Type 0 where
  pub time : IsNear raw.time
  pub x : IsNear raw.x
  pub y : IsNear raw.y

-- a row's instant and cell are near
pub record IsRowInRange (row : Row) : Type 0 where
  pub instant : IsNear row.instant
  pub x : IsNear row.cell.x
  pub y : IsNear row.cell.y

-- at most `MAX_REACH` away from 0, as are coordinates that are compared
pub record IsWithin (z : ℤ) : Type 0 where
  pub low : neg_ℤ (pos MAX_REACH) ≤ℤ z
  pub high : z ≤ℤ pos MAX_REACH

-- a cell's coordinates are within
pub record IsCellWithin (cell : Cell) : Type 0 where
  pub x : IsWithin cell.x
  pub y : IsWithin cell.y

-- a box's bounds are within
pub record IsBoxWithin (area : CellBox) : Type 0 where
  pub x1 : IsWithin area.x1
  pub y1 : IsWithin area.y1
  pub x2 : IsWithin area.x2
  pub y2 : IsWithin area.y2

-- at most `MAX_ASKED` away from 0, as are instants and coordinates that are asked for
pub record IsAsked (z : ℤ) : Type 0 where
  pub low : neg_ℤ (pos MAX_ASKED) ≤ℤ z
  pub high : z ≤ℤ pos MAX_ASKED

-- a cell's coordinates may be asked for
pub record IsCellAsked (cell : Cell) : Type 0 where
  pub x : IsAsked cell.x
  pub y : IsAsked cell.y

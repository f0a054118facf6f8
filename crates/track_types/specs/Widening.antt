-- Boxes that are made wider on all sides.
use Rattle.std.specs.Prelude.{ℕ, ℤ, pos, ◌+ℤ◌, ◌-ℤ◌, ◌≤ℤ◌}
use Rattle.std.proofs.Common.{arith}
use Rattle.std.proofs.lemmas.Int.{ints}
use Rattle.track_types.specs.declared.cell_box.CellBox.{CellBox}

-- what is not less stays so, with the lower number lowered and the higher one raised
pub widened_bounds : (low high : ℤ) (width : ℕ) → low ≤ℤ high → (low -ℤ pos width) ≤ℤ (high +ℤ pos width)
widened_bounds low high width wide = omega (arith, ints)

-- the box with so many columns more on the left and on the right, and so many lines below and above
abbrev pub widened : ℕ → CellBox → CellBox
widened width area = record {
  x1 = area.x1 -ℤ pos width;
  y1 = area.y1 -ℤ pos width;
  x2 = area.x2 +ℤ pos width;
  y2 = area.y2 +ℤ pos width;
  wide = widened_bounds area.x1 area.x2 width area.wide;
  high = widened_bounds area.y1 area.y2 width area.high;
}

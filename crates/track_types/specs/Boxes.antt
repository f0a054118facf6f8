-- Boxes that are made of others: moved, joined and cut.
use Rattle.std.specs.Prelude.{ℕ, ◌^◌, ℤ, pos, neg_ℤ, ◌+ℤ◌, ◌≤ℤ◌, Bool, ◌&&◌}
use Rattle.std.specs.Int.{int_max, int_min}
use Rattle.std.proofs.Common.{arith}
use Rattle.std.proofs.lemmas.Int.{clamps, ints}
use Rattle.track_types.specs.Region.{overlaps}
use Rattle.track_types.specs.declared.cell.Cell.{Cell}
use Rattle.track_types.specs.declared.cell_box.CellBox.{CellBox}

-- a number is at most itself and some more
pub le-more : (x : ℤ) (far : ℕ) → x ≤ℤ (x +ℤ pos far)
le-more x far = omega (arith, ints)

-- the box that reaches so far from its least cell to the right and upwards
abbrev pub box_from : ℤ → ℤ → ℕ → CellBox
box_from x y far = record {
  x1 = x;
  y1 = y;
  x2 = x +ℤ pos far;
  y2 = y +ℤ pos far;
  wide = le-more x far;
  high = le-more y far;
}

-- the box of one cell
abbrev pub cell_box : Cell → CellBox
cell_box cell = box_from cell.x cell.y 0

-- an order of numbers stays where both are moved alike
pub moved-le : (amount a b : ℤ) → a ≤ℤ b → (amount +ℤ a) ≤ℤ (amount +ℤ b)
moved-le amount a b low = omega (arith, ints)

-- a box, moved from (0, 0) to a cell: by its column to the right and by its line upwards
abbrev pub moved_box : Cell → CellBox → CellBox
moved_box to area = record {
  x1 = to.x +ℤ area.x1;
  y1 = to.y +ℤ area.y1;
  x2 = to.x +ℤ area.x2;
  y2 = to.y +ℤ area.y2;
  wide = moved-le to.x area.x1 area.x2 area.wide;
  high = moved-le to.y area.y1 area.y2 area.high;
}

-- at most 2^61 away from 0, as far as boxes are moved
pub record IsFar (z : ℤ) : Type 0 where
  pub low : neg_ℤ (pos (2 ^ 61)) ≤ℤ z
  pub high : z ≤ℤ pos (2 ^ 61)

-- a box may be moved to a cell: none of its bounds gets too far
pub record IsMovable (to : Cell) (area : CellBox) : Type 0 where
  pub x1 : IsFar (to.x +ℤ area.x1)
  pub y1 : IsFar (to.y +ℤ area.y1)
  pub x2 : IsFar (to.x +ℤ area.x2)
  pub y2 : IsFar (to.y +ℤ area.y2)

-- the lesser of two numbers is at most the greater of two that are not less
pub min-le-max : (a b c d : ℤ) → a ≤ℤ b → int_min a c ≤ℤ int_max b d
min-le-max a b c d low = omega (arith, ints, clamps)

-- the least box with two boxes
abbrev pub joined_box : CellBox → CellBox → CellBox
joined_box area other = record {
  x1 = int_min area.x1 other.x1;
  y1 = int_min area.y1 other.y1;
  x2 = int_max area.x2 other.x2;
  y2 = int_max area.y2 other.y2;
  wide = min-le-max area.x1 area.x2 other.x1 other.x2 area.wide;
  high = min-le-max area.y1 area.y2 other.y1 other.y2 area.high;
}

-- whether two boxes have a cell in common
abbrev pub touches : CellBox → CellBox → Bool
touches first second = overlaps first.x1 first.x2 second.x1 second.x2 && overlaps first.y1 first.y2 second.y1 second.y2

-- the number from low to high that is nearest to one
abbrev pub cut : ℤ → ℤ → ℤ → ℤ
cut low high z = int_max low (int_min z high)

-- cutting two numbers to the same bounds keeps their order
pub cut-le : (low high a b : ℤ) → a ≤ℤ b → cut low high a ≤ℤ cut low high b
cut-le low high a b below = omega (arith, ints, clamps)

-- a box with its bounds cut to those of another: the cells of both, where they have a cell in common
abbrev pub cut_box : CellBox → CellBox → CellBox
cut_box whole area = record {
  x1 = cut whole.x1 whole.x2 area.x1;
  y1 = cut whole.y1 whole.y2 area.y1;
  x2 = cut whole.x1 whole.x2 area.x2;
  y2 = cut whole.y1 whole.y2 area.y2;
  wide = cut-le whole.x1 whole.x2 area.x1 area.x2 area.wide;
  high = cut-le whole.y1 whole.y2 area.y1 area.y2 area.high;
}

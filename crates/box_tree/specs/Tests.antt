-- What is asked of squares and of boxes, and when such a test is true of all that is wider.
use Rattle.std.specs.Prelude.{◌≡◌, Bool, true}
use Rattle.track_types.specs.declared.cell.Cell.{Cell}
use Rattle.track_types.specs.declared.cell_box.CellBox.{CellBox}
use Rattle.k2_tree.specs.Areas.{area_at, IsBoxInside}
use Rattle.k2_tree.specs.Squares.{Node}

-- a test is true of a box where it is true of one in it
abbrev pub IsWider : (CellBox → Bool) → Type 0
IsWider keep = (inner outer : CellBox) → IsBoxInside inner outer → keep inner ≡ true → keep outer ≡ true

-- two tests are true of a box where they are true of one in it: a test of squares, given as boxes, and a test of boxes
pub record AreMonotone (square area : CellBox → Bool) : Type 0 where
  pub squares : IsWider square
  pub boxes : IsWider area

-- what is asked: a test of squares and a test of boxes
pub record Tests : Type 0 where
  pub square : Node → Bool
  pub area : CellBox → Bool

-- the squares of a grid from a base that pass a test of boxes
abbrev pub squares_at : Cell → (CellBox → Bool) → Node → Bool
squares_at base squares square = squares (area_at base square)

-- a test of squares and a test of boxes, over a grid from a base
abbrev pub tests_at : Cell → (CellBox → Bool) → (CellBox → Bool) → Tests
tests_at base squares boxes = record { square = squares_at base squares; area = boxes }

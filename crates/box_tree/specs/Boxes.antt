-- How boxes are kept.
use Rattle.std.specs.Prelude.{◌≡◌, ℕ, ◌-◌, ◌^◌, pos, ◌+ℤ◌, ◌≤ℤ◌, List, [], ◌∷◌, length}
use Rattle.track_types.specs.declared.cell.Cell.{Cell}
use Rattle.track_types.specs.declared.cell_box.CellBox.{CellBox}
use Rattle.track_types.specs.Boxes.{le-more}
pub use Rattle.k2_tree.specs.Morton.{IsBase}

-- the box that begins so far from a base and reaches so far
abbrev pub box_with : Cell → ℕ × ℕ → ℕ × ℕ → CellBox
box_with base corner reach = record {
  x1 = base.x +ℤ pos corner.0;
  y1 = base.y +ℤ pos corner.1;
  x2 = base.x +ℤ pos corner.0 +ℤ pos reach.0;
  y2 = base.y +ℤ pos corner.1 +ℤ pos reach.1;
  wide = le-more (base.x +ℤ pos corner.0) reach.0;
  high = le-more (base.y +ℤ pos corner.1) reach.1;
}

-- the boxes that lists stand for
unfoldable pub boxes_of : Cell → List (ℕ × ℕ) → List (ℕ × ℕ) → List CellBox
boxes_of base [] reaches = []
boxes_of base (corner ∷ corners) [] = []
boxes_of base (corner ∷ corners) (reach ∷ reaches) = box_with base corner reach ∷ boxes_of base corners reaches

-- a box lies to the right of a base and above it, and less than 2^32 away
pub record IsFrom (base : Cell) (area : CellBox) : Type 0 where
  pub left : base.x ≤ℤ area.x1
  pub right : area.x2 ≤ℤ (base.x +ℤ pos (2 ^ 32 - 1))
  pub below : base.y ≤ℤ area.y1
  pub above : area.y2 ≤ℤ (base.y +ℤ pos (2 ^ 32 - 1))

-- lists of boxes near 0
pub record AreBoxes (base : Cell) (corners reaches : List (ℕ × ℕ)) : Type 0 where
  pub is : IsBase base
  pub same : length reaches ≡ length corners

-- The bounds between which the cells of a box lie, boxes that a region touches, and the cell of a box that is nearest to a cell.
use Rattle.std.proofs.Common.{◌≡◌, ◌↔◌, ◌*◌, ◌≤◌, ℤ, true, IsTrue, arith, ◌≤ℤ◌, ◌-ℤ◌, List, [], ◌∷◌, refl, inl, inr}
use Rattle.std.specs.List.{list_any}
use Rattle.std.proofs.lemmas.Bool.{cases_Bool}
use Rattle.std.proofs.Math.Bool.{or-true}
use mathlib.Core.Bool.{false≢true}
use Rattle.std.specs.Prelude.{unsigned_abs}
use Rattle.std.specs.Int.{int_max, int_min}
use Rattle.std.specs.Int.Signed.{le_z}
use Rattle.std.proofs.Math.Nat.{mul-le-mul}
use Rattle.std.proofs.lemmas.Bool.{and_from, and_parts, le-leb, leb-true}
use Rattle.std.proofs.lemmas.Int.{clamps, ints}
use Rattle.track_types.specs.Region.{AnyShape, Intersects, OneShape, RegionShapes, in_box, in_shape, in_shapes, is_between, nearest_cell}
use Rattle.track_types.specs.Region.{intersects_region, intersects_shape, intersects_shapes, overlaps, region_shapes, squared_distance, squared_gap}
use Rattle.track_types.specs.declared.cell.Cell.{Cell}
use Rattle.track_types.specs.declared.cell_box.CellBox.{CellBox}
use Rattle.track_types.specs.declared.region.Region.{Region}
use Rattle.track_types.specs.declared.shape.Shape.{Shape}
use Rattle.track_types.specs.declared.shape.Shape.TheVariants.{Rect, Disc}

-- the test for a number between two others, and what it says
pub is_between-bounds : (low high z : ℤ) → is_between low high z ≡ true → (low ≤ℤ z) × (z ≤ℤ high)
is_between-bounds low high z holds = (grind (arith, ints), grind (arith, ints))

pub is_between-from : (low high z : ℤ) → low ≤ℤ z → z ≤ℤ high → is_between low high z ≡ true
is_between-from low high z above below = grind (arith, ints)

-- a cell lies within the bounds of a box
pub record IsBounded (area : CellBox) (cell : Cell) : Type 0 where
  pub left : area.x1 ≤ℤ cell.x
  pub right : cell.x ≤ℤ area.x2
  pub below : area.y1 ≤ℤ cell.y
  pub above : cell.y ≤ℤ area.y2

-- the test for a cell of a box, and what it says
pub in_box-bounds : (area : CellBox) (cell : Cell) → in_box area cell ≡ true → IsBounded area cell
in_box-bounds area cell inside = record {
  left = grind (arith, ints);
  right = grind (arith, ints);
  below = grind (arith, ints);
  above = grind (arith, ints);
}

pub in_box-from : (area : CellBox) (cell : Cell) → IsBounded area cell → in_box area cell ≡ true
in_box-from area cell is = grind (arith, ints, is.left, is.right, is.below, is.above)

-- the test for at most, and what it says
pub le_z-is : (a b : ℤ) → le_z a b ≡ true → a ≤ℤ b
le_z-is a b holds = grind (arith, ints)

pub le_z-from : (a b : ℤ) → a ≤ℤ b → le_z a b ≡ true
le_z-from a b below = grind (arith, ints)

-- two stretches with a number in common overlap
overlaps-from : (low high first last z : ℤ) → is_between first last z ≡ true → is_between low high z ≡ true →
    overlaps low high first last ≡ true
overlaps-from low high first last z inside held = grind (arith, ints, clamps)

-- where they overlap, the later start is in both
overlaps-shared : (low high first last : ℤ) → first ≤ℤ last → overlaps low high first last ≡ true →
    (is_between first last (int_max low first) ≡ true) × (is_between low high (int_max low first) ≡ true)
overlaps-shared low high first last wide held = (grind (arith, ints, clamps), grind (arith, ints, clamps))

-- no number from a to b is nearer to z than the nearest one
squared_gap-nearest : (a b z other : ℤ) → a ≤ℤ other → other ≤ℤ b →
    squared_gap z (int_max a (int_min z b)) ≤ squared_gap z other
squared_gap-nearest a b z other above below =
    let nearer : unsigned_abs (z -ℤ int_max a (int_min z b)) ≤ unsigned_abs (z -ℤ other) = omega (arith, ints, clamps) in
    mul-le-mul nearer nearer

-- the nearest cell of a box is in the box
nearest_cell-in_box : (area : CellBox) (cell : Cell) → in_box area (nearest_cell area cell) ≡ true
nearest_cell-in_box area cell = in_box-from area (nearest_cell area cell) (record {
  left = omega (arith, ints, clamps);
  right = omega (arith, ints, clamps, area.wide);
  below = omega (arith, ints, clamps);
  above = omega (arith, ints, clamps, area.high);
})

-- no cell of a box is nearer to a cell than the nearest cell of it
pub squared_distance-nearest : (area : CellBox) (cell other : Cell) → in_box area other ≡ true →
    squared_distance cell (nearest_cell area cell) ≤ squared_distance cell other
squared_distance-nearest area cell other inside =
    let box = in_box-bounds area other inside in
    let across = squared_gap-nearest area.x1 area.x2 cell.x other.x box.left box.right in
    let along = squared_gap-nearest area.y1 area.y2 cell.y other.y box.below box.above in
    omega arith

-- where a cell of the box is in a shape, the test passes
intersects_shape-from_cell : (shape : Shape) (area : CellBox) (cell : Cell) →
    in_box area cell ≡ true → in_shape shape cell ≡ true → intersects_shape shape area ≡ true
intersects_shape-from_cell (Rect x1 y1 x2 y2) area cell inside held =
    let box = and_parts (is_between area.x1 area.x2 cell.x) (is_between area.y1 area.y2 cell.y) inside in
    let rect = and_parts (is_between x1 x2 cell.x) (is_between y1 y2 cell.y) held in
    and_from _ _ (overlaps-from x1 x2 area.x1 area.x2 cell.x box.0 rect.0) (overlaps-from y1 y2 area.y1 area.y2 cell.y box.1 rect.1)
intersects_shape-from_cell (Disc x y r) area cell inside held =
    let centre : Cell = record { x = x; y = y } in
    let nearer = squared_distance-nearest area centre cell inside in
    let within : squared_distance centre cell ≤ r * r = leb-true _ _ held in
    le-leb _ _ (omega arith)

-- where the test passes, a cell of the box is in the shape
intersects_shape-cell : (shape : Shape) (area : CellBox) → intersects_shape shape area ≡ true →
    (cell : Cell) × IsTrue (in_box area cell) × IsTrue (in_shape shape cell)
intersects_shape-cell (Rect x1 y1 x2 y2) area held =
    let parts = and_parts (overlaps x1 x2 area.x1 area.x2) (overlaps y1 y2 area.y1 area.y2) held in
    let across = overlaps-shared x1 x2 area.x1 area.x2 area.wide parts.0 in
    let along = overlaps-shared y1 y2 area.y1 area.y2 area.high parts.1 in
    (record { x = int_max x1 area.x1; y = int_max y1 area.y1 }, and_from _ _ across.0 along.0, and_from _ _ across.1 along.1)
intersects_shape-cell (Disc x y r) area held =
    let centre : Cell = record { x = x; y = y } in
    (nearest_cell area centre, nearest_cell-in_box area centre, held)

-- where a cell of the box is in some of the shapes, the test passes
intersects_any-from_cell : (shapes : List Shape) (area : CellBox) (cell : Cell) → in_box area cell ≡ true →
    list_any (λ shape. in_shape shape cell) shapes ≡ true →
    list_any (λ shape. intersects_shape shape area) shapes ≡ true
intersects_any-from_cell [] area cell inside held = held
intersects_any-from_cell (shape ∷ shapes) area cell inside held = elim (cases_Bool (in_shape shape cell)) [
  | inl here ↦ rw (intersects_shape-from_cell shape area cell inside here) refl
  | inr not_here ↦
      rw (intersects_any-from_cell shapes area cell inside (rw not_here at held)) (or-true (intersects_shape shape area))
]

-- where the test passes, a cell of the box is in some of the shapes
intersects_any-cell : (shapes : List Shape) (area : CellBox) →
    list_any (λ shape. intersects_shape shape area) shapes ≡ true →
    (cell : Cell) × IsTrue (in_box area cell) × IsTrue (list_any (λ shape. in_shape shape cell) shapes)
intersects_any-cell [] area held = absurd (false≢true held)
intersects_any-cell (shape ∷ shapes) area held = elim (cases_Bool (intersects_shape shape area)) [
  | inl here ↦
      let found = intersects_shape-cell shape area here in
      (found.0, found.1, rw found.2 refl)
  | inr not_here ↦
      let found = intersects_any-cell shapes area (rw not_here at held) in
      (found.0, found.1, rw found.2 (or-true (in_shape shape found.0)))
]

-- where a cell of the box is in the one shape or in some of the shapes, the test passes
intersects_shapes-from_cell : (shapes : RegionShapes) (area : CellBox) (cell : Cell) →
    in_box area cell ≡ true → in_shapes shapes cell ≡ true → intersects_shapes shapes area ≡ true
intersects_shapes-from_cell (OneShape shape) area cell = intersects_shape-from_cell shape area cell
intersects_shapes-from_cell (AnyShape shapes) area cell = intersects_any-from_cell shapes area cell

-- where the test passes, a cell of the box is in the one shape or in some of the shapes
intersects_shapes-cell : (shapes : RegionShapes) (area : CellBox) → intersects_shapes shapes area ≡ true →
    (cell : Cell) × IsTrue (in_box area cell) × IsTrue (in_shapes shapes cell)
intersects_shapes-cell (OneShape shape) area = intersects_shape-cell shape area
intersects_shapes-cell (AnyShape shapes) area = intersects_any-cell shapes area

-- the test decides
pub intersects_region-exact : (region : Region) (area : CellBox) → IsTrue (intersects_region region area) ↔ Intersects region area
intersects_region-exact region area = (
  intersects_shapes-cell (region_shapes region) area,
  λ touched. intersects_shapes-from_cell (region_shapes region) area touched.0 touched.1 touched.2,
)

-- Regions, the cells that they hold, and the boxes that they touch.
use Rattle.std.specs.Prelude.{ℕ, ◌+◌, ◌*◌, ◌≤◌, ℤ, ◌-ℤ◌, unsigned_abs, Bool, ◌&&◌, nat_le, IsTrue, All}
use Rattle.std.specs.Prelude.{List, [], ◌∷◌, ⊤}
use Rattle.std.specs.List.{list_any}
use Rattle.std.specs.Int.{int_max, int_min}
use Rattle.std.specs.Int.Signed.{le_z}
use Rattle.track_types.specs.Near.{IsAsked, IsWithin}
use Rattle.track_types.specs.declared.cell.Cell.{Cell}
use Rattle.track_types.specs.declared.cell_box.CellBox.{CellBox}
use Rattle.track_types.specs.declared.limit.TheConstants.{MAX_REACH}
use Rattle.track_types.specs.declared.region.Region.{Region}
use Rattle.track_types.specs.declared.region.Region.TheVariants as region
use Rattle.track_types.specs.declared.region.ShapesRef.{ShapesRef}
use Rattle.track_types.specs.declared.region.ShapesRef.TheVariants as borrowed
use Rattle.track_types.specs.declared.shape.Shape.{Shape}
use Rattle.track_types.specs.declared.shape.Shape.TheVariants.{Rect, Disc}

-- a number of a shape: a coordinate, or a radius
pub data ShapeNumber : Type 0 where
  Coordinate : ℤ → ShapeNumber
  Radius : ℕ → ShapeNumber

-- the numbers of a shape
abbrev pub shape_numbers : Shape → List ShapeNumber
shape_numbers (Rect x1 y1 x2 y2) = Coordinate x1 ∷ Coordinate y1 ∷ Coordinate x2 ∷ Coordinate y2 ∷ []
shape_numbers (Disc x y r) = Coordinate x ∷ Coordinate y ∷ Radius r ∷ []

-- a coordinate in that range, or a radius of at most `MAX_REACH`
abbrev pub IsNumberIn : (ℤ → Type 0) → ShapeNumber → Type 0
IsNumberIn IsIn (Coordinate z) = IsIn z
IsNumberIn IsIn (Radius r) = r ≤ MAX_REACH

-- coordinates in that range, and radii of at most `MAX_REACH`
abbrev pub AreNumbersIn : (ℤ → Type 0) → List ShapeNumber → Type 0
AreNumbersIn IsIn [] = ⊤
AreNumbersIn IsIn (number ∷ []) = IsNumberIn IsIn number
AreNumbersIn IsIn (number ∷ next ∷ more) = IsNumberIn IsIn number × AreNumbersIn IsIn (next ∷ more)

-- a shape whose numbers are at most `MAX_REACH` away from 0
abbrev pub IsShapeWithin : Shape → Type 0
IsShapeWithin shape = AreNumbersIn IsWithin (shape_numbers shape)

-- a shape that may be asked for: its coordinates may, and its radius is at most `MAX_REACH`
abbrev pub IsShapeAsked : Shape → Type 0
IsShapeAsked shape = AreNumbersIn IsAsked (shape_numbers shape)

-- what a region is made of: one shape, or several, in any of which its cells are
pub data RegionShapes : Type 0 where
  OneShape : Shape → RegionShapes
  AnyShape : List Shape → RegionShapes

-- the shapes of a region
abbrev pub region_shapes : Region → RegionShapes
region_shapes (region.Rect x1 y1 x2 y2) = OneShape (Rect x1 y1 x2 y2)
region_shapes (region.Disc x y r) = OneShape (Disc x y r)
region_shapes (region.Any shapes) = AnyShape shapes

-- the region of one shape
abbrev pub region_one : Shape → Region
region_one (Rect x1 y1 x2 y2) = region.Rect x1 y1 x2 y2
region_one (Disc x y r) = region.Disc x y r

-- the shapes that are borrowed
abbrev pub borrowed_shapes : ShapesRef → RegionShapes
borrowed_shapes (borrowed.One shape) = OneShape shape
borrowed_shapes (borrowed.Any shapes) = AnyShape shapes.now

-- shapes each of which is so
abbrev pub AreAll : (Shape → Type 0) → RegionShapes → Type 0
AreAll Is (OneShape shape) = Is shape
AreAll Is (AnyShape shapes) = All Is shapes

-- a region whose shapes' numbers are at most `MAX_REACH` away from 0
abbrev pub IsRegionWithin : Region → Type 0
IsRegionWithin region = AreAll IsShapeWithin (region_shapes region)

-- a region whose shapes may be asked for
abbrev pub IsRegionAsked : Region → Type 0
IsRegionAsked region = AreAll IsShapeAsked (region_shapes region)

-- the square of how far two numbers are apart
abbrev pub squared_gap : ℤ → ℤ → ℕ
squared_gap a b = unsigned_abs (a -ℤ b) * unsigned_abs (a -ℤ b)

-- the square of the Euclidean distance of two cells
abbrev pub squared_distance : Cell → Cell → ℕ
squared_distance a b = squared_gap a.x b.x + squared_gap a.y b.y

-- whether a number is from low to high, both counted
abbrev pub is_between : ℤ → ℤ → ℤ → Bool
is_between low high z = le_z low z && le_z z high

-- whether a cell is in a shape: in a rect by the bounds, in a disc by the squared distance from the centre
abbrev pub in_shape : Shape → Cell → Bool
in_shape (Rect x1 y1 x2 y2) cell = is_between x1 x2 cell.x && is_between y1 y2 cell.y
in_shape (Disc x y r) cell = nat_le (squared_distance (record { x = x; y = y }) cell) (r * r)

-- whether a cell is in the one shape, or in some of the shapes
abbrev pub in_shapes : RegionShapes → Cell → Bool
in_shapes (OneShape shape) cell = in_shape shape cell
in_shapes (AnyShape shapes) cell = list_any (λ shape. in_shape shape cell) shapes

-- whether a cell is in a region
abbrev pub in_region : Region → Cell → Bool
in_region region cell = in_shapes (region_shapes region) cell

-- a cell is in a region
abbrev pub InRegion : Region → Cell → Type 0
InRegion region cell = IsTrue (in_region region cell)

-- whether a cell is in a box
abbrev pub in_box : CellBox → Cell → Bool
in_box area cell = is_between area.x1 area.x2 cell.x && is_between area.y1 area.y2 cell.y

-- some cell of the box is in the region
abbrev pub Intersects : Region → CellBox → Type 0
Intersects region area = (cell : Cell) × IsTrue (in_box area cell) × InRegion region cell

-- the cell of a box that is nearest to a cell
abbrev pub nearest_cell : CellBox → Cell → Cell
nearest_cell area cell =
    record { x = int_max area.x1 (int_min cell.x area.x2); y = int_max area.y1 (int_min cell.y area.y2) }

-- whether some number is from low to high and from first to last, all of them counted
abbrev pub overlaps : ℤ → ℤ → ℤ → ℤ → Bool
overlaps low high first last = le_z (int_max low first) (int_min high last)

-- The test for the shapes that have a cell of a box: a rect overlaps the box in both axes, and a disc has the cell of
-- the box that is nearest to its centre.
abbrev pub intersects_shape : Shape → CellBox → Bool
intersects_shape (Rect x1 y1 x2 y2) area = overlaps x1 x2 area.x1 area.x2 && overlaps y1 y2 area.y1 area.y2
intersects_shape (Disc x y r) area =
    let centre : Cell = record { x = x; y = y } in nat_le (squared_distance centre (nearest_cell area centre)) (r * r)

-- whether the one shape, or some of the shapes, has a cell of the box
abbrev pub intersects_shapes : RegionShapes → CellBox → Bool
intersects_shapes (OneShape shape) area = intersects_shape shape area
intersects_shapes (AnyShape shapes) area = list_any (λ shape. intersects_shape shape area) shapes

-- the test for `Intersects`
abbrev pub intersects_region : Region → CellBox → Bool
intersects_region region area = intersects_shapes (region_shapes region) area

-- A region that may be asked for is near enough for its tests.
use Rattle.std.proofs.Common.{ℤ, List, [], ◌∷◌, get_or, arith}
use Rattle.std.proofs.lemmas.Int.{ints}
use Rattle.track_types.specs.Near.{IsAsked, IsWithin}
use Rattle.track_types.specs.Region.{AnyShape, AreAll, AreNumbersIn, Coordinate, IsNumberIn, IsRegionAsked, IsRegionWithin, IsShapeAsked}
use Rattle.track_types.specs.Region.{IsShapeWithin, OneShape, Radius, RegionShapes, ShapeNumber, region_shapes, shape_numbers}
use Rattle.track_types.specs.declared.region.Region.{Region}

within-asked : (z : ℤ) → IsAsked z → IsWithin z
within-asked z near = record { low = omega (arith, ints, near.low); high = omega (arith, ints, near.high) }

number-asked : (number : ShapeNumber) → IsNumberIn IsAsked number → IsNumberIn IsWithin number
number-asked (Coordinate z) near = within-asked z near
number-asked (Radius r) near = near

numbers-asked : (numbers : List ShapeNumber) → AreNumbersIn IsAsked numbers → AreNumbersIn IsWithin numbers
numbers-asked [] near = tt
numbers-asked (number ∷ []) near = number-asked number near
numbers-asked (number ∷ next ∷ more) near = (number-asked number near.0, numbers-asked (next ∷ more) near.1)

shapes-asked : (shapes : RegionShapes) → AreAll IsShapeAsked shapes → AreAll IsShapeWithin shapes
shapes-asked (OneShape shape) near = numbers-asked (shape_numbers shape) near
shapes-asked (AnyShape shapes) near =
    λ place none below. numbers-asked (shape_numbers (get_or shapes place none)) (near place none below)

pub IsRegionWithin-asked : (region : Region) → IsRegionAsked region → IsRegionWithin region
IsRegionWithin-asked region near = shapes-asked (region_shapes region) near

-- Lists of shapes, as they are kept.
use Rattle.std.proofs.Common.{◌≡◌, ℕ, ◌-◌, ◌≤◌, List, ◌++◌, length, take, drop, replicate, pos, refl, arith}
use Rattle.std.proofs.lemmas.List.{length-take, take-append-drop}
use Rattle.track_types.specs.declared.shapes.Shapes.TheInside.{Inside}
use Rattle.track_types.specs.declared.shape.Shape.{Shape}
use Rattle.track_types.specs.declared.shape.Shape.TheVariants.{Rect}

-- what stands in a place that no shape has
abbrev pub no_shape : Shape
no_shape = Rect (pos 0) (pos 0) (pos 0) (pos 0)

-- sixteen places: shapes, and then no shape
abbrev pub filled : List Shape → List Shape
filled shapes = shapes ++ replicate (16 - length shapes) no_shape

-- sixteen places hold 1 to 16 shapes
pub record AreShapes (places : List Shape) (count : ℕ) : Type 0 where
  pub some : 1 ≤ count
  pub few : count ≤ 16
  pub whole : length places ≡ 16
  pub rest : drop count places ≡ replicate (16 - count) no_shape

-- places are what their shapes fill
pub filled-places : (places : List Shape) (count : ℕ) → AreShapes places count → filled (take count places) ≡ places
filled-places places count are =
    let whole : length (take count places) ≡ count = omega (arith, length-take count places, are.few, are.whole) in
    rw (whole, ← are.rest) (take-append-drop count places)

-- the shapes give the fields back
pub filled-inside : (inside : Inside) → AreShapes inside.places inside.count →
    let shapes = take inside.count inside.places in
    let given : Inside = record { places = filled shapes; count = length shapes } in given ≡ inside
filled-inside inside are =
    let whole : length (take inside.count inside.places) ≡ inside.count =
    omega (arith, length-take inside.count inside.places, are.few, are.whole) in
    rw (filled-places inside.places inside.count are, whole) refl

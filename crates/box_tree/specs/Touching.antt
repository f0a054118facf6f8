-- A search by two boxes, as the tests ask it.
use Rattle.std.proofs.Common.{◌≡◌, ℤ, ◌≤ℤ◌, true, arith}
use Rattle.std.proofs.lemmas.Bool.{and_from, and_parts}
use Rattle.std.proofs.lemmas.Int.{ints, clamps}
use Rattle.track_types.specs.Boxes.{touches}
use Rattle.track_types.specs.Region.{overlaps}
use Rattle.track_types.specs.declared.cell_box.CellBox.{CellBox}
use Rattle.box_tree.specs.Tests.{AreMonotone, IsWider}

-- what overlaps a pair of bounds overlaps a wider one
overlaps-wider : (low high a b c d : ℤ) → c ≤ℤ a → b ≤ℤ d → overlaps low high a b ≡ true → overlaps low high c d ≡ true
overlaps-wider low high a b c d left right holds = grind (arith, ints, clamps)

-- a box that touches one touches it where it is wider
pub wider-touches : (area : CellBox) → IsWider (touches area)
wider-touches area inner outer inside holds =
    let axes = and_parts (overlaps area.x1 area.x2 inner.x1 inner.x2) (overlaps area.y1 area.y2 inner.y1 inner.y2) holds in
    and_from _ _ (overlaps-wider area.x1 area.x2 inner.x1 inner.x2 outer.x1 outer.x2 inside.left inside.right axes.0)
    (overlaps-wider area.y1 area.y2 inner.y1 inner.y2 outer.y1 outer.y2 inside.below inside.above axes.1)

-- what touches a box touches each box round it, so both tests are monotone
pub touching-monotone : (square area : CellBox) → AreMonotone (touches square) (touches area)
touching-monotone square area = record { squares = wider-touches square; boxes = wider-touches area }

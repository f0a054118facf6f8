-- That both tests of a reach are true of a box where they are true of one in it.
use Rattle.std.specs.Prelude.{ℕ}
use Rattle.std.proofs.Common.{arith}
use Rattle.std.proofs.lemmas.Bool.{and_from, and_parts}
use Rattle.std.proofs.lemmas.Int.{ints}
use Rattle.track_types.specs.Region.{intersects_region}
use Rattle.track_types.specs.Widening.{widened}
use Rattle.track_types.specs.declared.cell_box.CellBox.{CellBox}
use Rattle.track_types.specs.declared.region.Region.{Region}
use Rattle.box_tree.specs.Tests.{AreMonotone, IsWider}
use Rattle.box_tree.specs.Touching.{wider-touches}
use Rattle.box_tree.proofs.MonotoneLemmas.{wider-intersects}
use Rattle.k2_tree.specs.Areas.{IsBoxInside}
use Rattle.track_types.specs.Boxes.{cut-le, cut_box, touches}
use Rattle.slice_search.specs.Reach.{may_reach}

-- a box within another stays so where both are made wider
widened-inside : (width : ℕ) (inner outer : CellBox) → IsBoxInside inner outer
    → IsBoxInside (widened width inner) (widened width outer)
widened-inside width inner outer inside = record {
  left = omega (arith, ints, inside.left);
  right = omega (arith, ints, inside.right);
  below = omega (arith, ints, inside.below);
  above = omega (arith, ints, inside.above);
}

-- and where both are cut
cut-inside : (grid inner outer : CellBox) → IsBoxInside inner outer
    → IsBoxInside (cut_box grid inner) (cut_box grid outer)
cut-inside grid inner outer inside = record {
  left = cut-le grid.x1 grid.x2 outer.x1 inner.x1 inside.left;
  right = cut-le grid.x1 grid.x2 inner.x2 outer.x2 inside.right;
  below = cut-le grid.y1 grid.y2 outer.y1 inner.y1 inside.below;
  above = cut-le grid.y1 grid.y2 inner.y2 outer.y2 inside.above;
}

-- a region within reach of a box is so of each box round it
wider-may_reach : (region : Region) (grid : CellBox) (width : ℕ) → IsWider (may_reach region grid width)
unfolding may_reach
wider-may_reach region grid width inner outer inside holds =
    let a : CellBox = widened width inner in
    let b : CellBox = widened width outer in
    let wide : IsBoxInside a b = widened-inside width inner outer inside in
    let tests = and_parts (touches grid a) (intersects_region region (cut_box grid a)) holds in
    and_from _ _ (wider-touches grid a b wide tests.0)
    (wider-intersects region (cut_box grid a) (cut_box grid b) (cut-inside grid a b wide) tests.1)

-- both tests of a reach are monotone
pub monotone-reach : (region : Region) (grid : CellBox) (width : ℕ)
    → AreMonotone (may_reach region grid width) (intersects_region region)
monotone-reach region grid width = record {
  squares = wider-may_reach region grid width;
  boxes = wider-intersects region;
}

-- Boxes in boxes.
use Rattle.std.proofs.Common.{arith}
use Rattle.std.proofs.lemmas.Int.{clamps, ints}
use Rattle.track_types.specs.Boxes.{joined_box}
use Rattle.track_types.specs.declared.cell_box.CellBox.{CellBox}
use Rattle.k2_tree.specs.Areas.{IsBoxInside}

-- a box lies within itself
pub inside-self : (area : CellBox) → IsBoxInside area area
inside-self area = record {
  left = omega (arith, ints);
  right = omega (arith, ints);
  below = omega (arith, ints);
  above = omega (arith, ints);
}

-- and within what a box round it lies within
pub inside-inside : (a b c : CellBox) → IsBoxInside a b → IsBoxInside b c → IsBoxInside a c
inside-inside a b c inner outer = record {
  left = omega (arith, ints, inner.left, outer.left);
  right = omega (arith, ints, inner.right, outer.right);
  below = omega (arith, ints, inner.below, outer.below);
  above = omega (arith, ints, inner.above, outer.above);
}

-- two boxes lie in the least box with both
pub inside-joined : (area other : CellBox)
    → IsBoxInside area (joined_box area other) × IsBoxInside other (joined_box area other)
inside-joined area other = (
  record {
    left = omega (arith, ints, clamps);
    right = omega (arith, ints, clamps);
    below = omega (arith, ints, clamps);
    above = omega (arith, ints, clamps);
  },
  record {
    left = omega (arith, ints, clamps);
    right = omega (arith, ints, clamps);
    below = omega (arith, ints, clamps);
    above = omega (arith, ints, clamps);
  },
)

-- which lies in each box with both
pub joined-inside : (area other whole : CellBox) → IsBoxInside area whole → IsBoxInside other whole
    → IsBoxInside (joined_box area other) whole
joined-inside area other whole own first = record {
  left = omega (arith, ints, clamps, own.left, first.left);
  right = omega (arith, ints, clamps, own.right, first.right);
  below = omega (arith, ints, clamps, own.below, first.below);
  above = omega (arith, ints, clamps, own.above, first.above);
}

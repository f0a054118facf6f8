-- A wider box is no farther.
use Rattle.std.proofs.Common.{ℕ, ◌+◌, ◌*◌, ◌≤◌, ℤ, ◌-ℤ◌, ◌≤ℤ◌, arith, mul-le-mul_left, mul-le-mul_right}
use Rattle.std.specs.Prelude.{unsigned_abs}
use Rattle.std.specs.Int.{int_max, int_min}
use Rattle.std.proofs.lemmas.Int.{ints, clamps}
use Rattle.track_types.specs.Region.{nearest_cell, squared_distance}
use Rattle.track_types.specs.declared.cell.Cell.{Cell}
use Rattle.track_types.specs.declared.cell_box.CellBox.{CellBox}
use Rattle.k2_tree.specs.Areas.{IsBoxInside}

-- the cell of a box that is nearest to one is no farther in a wider box
pub nearest-wider : (cell : Cell) (inner outer : CellBox) → IsBoxInside inner outer
    → squared_distance cell (nearest_cell outer cell) ≤ squared_distance cell (nearest_cell inner cell)
nearest-wider cell inner outer inside =
    let across : unsigned_abs (cell.x -ℤ int_max outer.x1 (int_min cell.x outer.x2)) ≤ unsigned_abs
    (cell.x -ℤ int_max inner.x1 (int_min cell.x inner.x2)) =
    nearer cell.x outer.x1 outer.x2 inner.x1 inner.x2 inside.left inside.right inner.wide in
    let along : unsigned_abs (cell.y -ℤ int_max outer.y1 (int_min cell.y outer.y2)) ≤ unsigned_abs
    (cell.y -ℤ int_max inner.y1 (int_min cell.y inner.y2)) =
    nearer cell.y outer.y1 outer.y2 inner.y1 inner.y2 inside.below inside.above inner.high in
    sums _ _ _ _ across along
  where
    nearer : (z a b c d : ℤ) → a ≤ℤ c → d ≤ℤ b → c ≤ℤ d
        → unsigned_abs (z -ℤ int_max a (int_min z b)) ≤ unsigned_abs (z -ℤ int_max c (int_min z d))
    nearer z a b c d low high wide = omega (arith, ints, clamps)

    sums : (p q r s : ℕ) → p ≤ r → q ≤ s → p * p + q * q ≤ r * r + s * s
    sums p q r s a b =
        let x = mul-le-mul_left p a in let y = mul-le-mul_right r a in
        let u = mul-le-mul_left q b in let v = mul-le-mul_right s b in
        omega (arith, x, y, u, v)

-- Which cells a widened box has.
use Rattle.std.proofs.Common.{◌≡◌, ℕ, ◌≤◌, true, arith, ◌≤ℤ◌, ◌-ℤ◌}
use Rattle.std.proofs.lemmas.Int.{ints}
use Rattle.track_types.specs.Region.{in_box}
use Rattle.track_types.specs.Widening.{widened}
use Rattle.track_types.specs.declared.cell.Cell.{Cell}
use Rattle.track_types.specs.declared.cell_box.CellBox.{CellBox}
use Rattle.track_types.proofs.RegionLemmas.{in_box-bounds, in_box-from}

-- a box round another one that is widened as far or farther has each cell of the widened inner one
pub in_box-wider : (inner outer : CellBox) (n m : ℕ) (cell : Cell) → n ≤ m → outer.x1 ≤ℤ inner.x1 → inner.x2 ≤ℤ outer.x2 →
    outer.y1 ≤ℤ inner.y1 → inner.y2 ≤ℤ outer.y2 → in_box (widened n inner) cell ≡ true → in_box (widened m outer) cell ≡ true
in_box-wider inner outer n m cell more left right below above held =
    let box = in_box-bounds (widened n inner) cell held in
    in_box-from (widened m outer) cell (record {
      left = omega (arith, ints, box.left);
      right = omega (arith, ints, box.right);
      below = omega (arith, ints, box.below);
      above = omega (arith, ints, box.above);
    })

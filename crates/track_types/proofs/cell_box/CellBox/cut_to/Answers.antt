use Rattle.std.proofs.Common.{◌≡◌, ℤ, w64, to_z, of_z, arith, subst, sym}
use Rattle.std.proofs.lemmas.Int.{clamps, ints, to_z-of_z}
use Rattle.track_types.proofs.BoxLemmas.{same_box}
use Rattle.track_types.specs.Near.{IsBoxWithin, IsWithin}
use Rattle.track_types.specs.declared.cell_box.CellBox.{CellBox}
use Rattle.track_types.specs.Boxes.{cut, cut_box}
use Rattle.track_types.proofs.cell_box.CellBox.cut_to.Goals as goal

-- a bound that is cut is near where those of the grid are
cut-within : (low high z : ℤ) → IsWithin low → IsWithin high → IsWithin (cut low high z)
cut-within low high z one other = record {
  low = omega (arith, ints, clamps, one.low, other.low);
  high = omega (arith, ints, clamps, one.high, other.high);
}

cut_box-within : (grid area : CellBox) → IsBoxWithin grid → IsBoxWithin (cut_box grid area)
cut_box-within grid area near = record {
  x1 = cut-within grid.x1 grid.x2 area.x1 near.x1 near.x2;
  y1 = cut-within grid.y1 grid.y2 area.y1 near.y1 near.y2;
  x2 = cut-within grid.x1 grid.x2 area.x2 near.x1 near.x2;
  y2 = cut-within grid.y1 grid.y2 area.y2 near.y1 near.y2;
}

pub invariant_of-result : goal.invariant_of-result
invariant_of-result c =
    let grid = c.args.whole.now in
    let area = c.args.self.now in
    let x1 : to_z w64 (of_z w64 c.clamp.result) ≡ cut grid.x1 grid.x2 area.x1 = grind (arith, to_z-of_z) in
    let y1 : to_z w64 (of_z w64 c.clamp-2.result) ≡ cut grid.y1 grid.y2 area.y1 = grind (arith, to_z-of_z) in
    let x2 : to_z w64 (of_z w64 c.clamp-3.result) ≡ cut grid.x1 grid.x2 area.x2 = grind (arith, to_z-of_z) in
    let y2 : to_z w64 (of_z w64 c.clamp-4.result) ≡ cut grid.y1 grid.y2 area.y2 = grind (arith, to_z-of_z) in
    record { wide = omega (arith, ints, clamps, area.wide, x1, x2); high = omega (arith, ints, clamps, area.high, y1, y2) }

pub returns-clause-value : goal.returns-clause-value
returns-clause-value c =
    same_box _ _ (grind (arith, to_z-of_z)) (grind (arith, to_z-of_z)) (grind (arith, to_z-of_z)) (grind (arith, to_z-of_z))

pub returns-clause-within : goal.returns-clause-within
returns-clause-within c =
    λ near. subst IsBoxWithin (sym (returns-clause-value c)) (cut_box-within c.args.whole.now c.args.self.now near)

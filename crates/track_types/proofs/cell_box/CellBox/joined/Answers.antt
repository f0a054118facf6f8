use Rattle.std.proofs.Common.{◌≡◌, w64, to_z, of_z, arith}
use Rattle.std.specs.Int.{int_max, int_min}
use Rattle.std.proofs.lemmas.Int.{clamps, ints, to_z-of_z}
use Rattle.track_types.proofs.BoxLemmas.{same_box}
use Rattle.track_types.proofs.cell_box.CellBox.joined.Goals as goal

pub invariant_of-result : goal.invariant_of-result
invariant_of-result c =
    let area = c.args.self.now in
    let other = c.args.other.now in
    let x1 : to_z w64 (of_z w64 c.min.result) ≡ int_min area.x1 other.x1 = grind (arith, to_z-of_z) in
    let y1 : to_z w64 (of_z w64 c.min-2.result) ≡ int_min area.y1 other.y1 = grind (arith, to_z-of_z) in
    let x2 : to_z w64 (of_z w64 c.max.result) ≡ int_max area.x2 other.x2 = grind (arith, to_z-of_z) in
    let y2 : to_z w64 (of_z w64 c.max-2.result) ≡ int_max area.y2 other.y2 = grind (arith, to_z-of_z) in
    record {
      wide = omega (arith, ints, clamps, area.wide, x1, x2);
      high =
          omega (arith, ints, clamps, area.high, y1, y2);
    }

pub returns : goal.returns
returns c =
    same_box _ _ (grind (arith, to_z-of_z)) (grind (arith, to_z-of_z)) (grind (arith, to_z-of_z))
    (grind (arith, to_z-of_z))

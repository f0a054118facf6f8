use Rattle.std.proofs.Common.{◌≡◌, to_z, of_z, w64, arith}
use Rattle.std.proofs.lemmas.Int.{ints}
use Rattle.nearest_search.proofs.vantage.dist2_to.Goals as goal

pub returns : goal.returns
returns c =
    let area = c.args.area.now in
    let x : to_z w64 (of_z w64 c.args.cell.x) ≡ c.args.cell.x = omega (arith, ints, c.requires.cell.x.low, c.requires.cell.x.high) in
    let y : to_z w64 (of_z w64 c.args.cell.y) ≡ c.args.cell.y = omega (arith, ints, c.requires.cell.y.low, c.requires.cell.y.high) in
    let x1 : to_z w64 (of_z w64 area.x1) ≡ area.x1 = omega (arith, ints, c.requires.area.x1.low, c.requires.area.x1.high) in
    let x2 : to_z w64 (of_z w64 area.x2) ≡ area.x2 = omega (arith, ints, c.requires.area.x2.low, c.requires.area.x2.high) in
    let y1 : to_z w64 (of_z w64 area.y1) ≡ area.y1 = omega (arith, ints, c.requires.area.y1.low, c.requires.area.y1.high) in
    let y2 : to_z w64 (of_z w64 area.y2) ≡ area.y2 = omega (arith, ints, c.requires.area.y2.low, c.requires.area.y2.high) in
    let across = c.gap.ensures.value in
    let along = c.gap-2.ensures.value in
    let a = c.square.ensures.exact in
    let b = c.square-2.ensures.exact in
    cc

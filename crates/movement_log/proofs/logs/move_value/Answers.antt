use Rattle.std.proofs.Common.{◌<◌, rules, FitsSigned, w64, arith}
use Rattle.std.specs.Prelude.{ℤ, pos, negsuc, ◌-ℤ◌, unsigned_abs}
use Rattle.std.proofs.lemmas.Int.{to_z-of_z}
use Rattle.track_types.specs.declared.limit.TheConstants.{MAX_EXTENT}
use Rattle.movement_log.proofs.logs.move_value.Goals as goal

small_fits : (z : ℤ) → unsigned_abs z < MAX_EXTENT → FitsSigned w64 z
small_fits (pos n) small = record { sfits = omega arith }
small_fits (negsuc n) small = record { sfits = omega arith }

pub returns : goal.returns
returns c =
    let from = c.args.before.now.cell in
    let to = c.args.row.now.cell in
    let fits_x : FitsSigned w64 to.x = search rules in
    let fits_y : FitsSigned w64 to.y = search rules in
    let fits_x' : FitsSigned w64 from.x = search rules in
    let fits_y' : FitsSigned w64 from.y = search rules in
    let fits_dx = small_fits (to.x -ℤ from.x) (omega arith) in
    let fits_dy = small_fits (to.y -ℤ from.y) (omega arith) in
    let code = rw (
      to_z-of_z w64 to.x fits_x,
      to_z-of_z w64 to.y fits_y,
      to_z-of_z w64 from.x fits_x',
      to_z-of_z w64 from.y fits_y',
      to_z-of_z w64 (to.x -ℤ from.x) fits_dx,
      to_z-of_z w64 (to.y -ℤ from.y) fits_dy,
    ) at c.encode_move.ensures.exact in
    omega (arith, code)

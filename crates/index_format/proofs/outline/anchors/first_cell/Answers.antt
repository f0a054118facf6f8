use Rattle.std.proofs.Common.{◌≡◌, pos, arith, lit<, w64}
use Rattle.std.proofs.Math.Nat.{pow-le-pow_right}
use Rattle.std.proofs.lemmas.Int.{to_z_pos}
use Rattle.std.specs.Int.{cast_signed as to_z}
use Rattle.std.proofs.lemmas.Result.{err_from_is_err_and}
use Rattle.index_format.proofs.AnchorLemmas.{anchor_in-no_x, anchor_in-no_y, anchor_in-first}
use Rattle.index_format.proofs.outline.anchors.first_cell.Goals as goal

pub returns-in_err-x-clause-exact : goal.returns-in_err-x-clause-exact
returns-in_err-x-clause-exact c =
    let p = err_from_is_err_and c.from_residual.result c.from_residual.ensures.1 in
    rw (p.1, p.2) (anchor_in-no_x c.args.frame.now c.args.period c.args.index c.args.reader.now c.in_err-x.field-0.0
    (rw c.of-place.ensures at c.in_err-x.ensures.exact))

pub returns-in_err-y-clause-exact : goal.returns-in_err-y-clause-exact
returns-in_err-y-clause-exact c =
    let p = err_from_is_err_and c.from_residual-in_err-y.result c.from_residual-in_err-y.ensures.1 in
    rw (p.1, p.2) (anchor_in-no_y c.args.frame.now c.args.period c.args.index c.args.reader.now c.in_ok-x.x c.wide.new.reader
    (rw c.of-place.ensures at c.in_ok-x.ensures.exact) c.in_err-y.field-0.0 (rw c.of-place.ensures at c.in_err-y.ensures.exact))

pub returns-clause-exact : goal.returns-clause-exact
returns-clause-exact c =
    let high = pow-le-pow_right {n = 2} (lit< tt) {i = c.args.frame.now.height} {j = 24} c.requires in
    let x_fits : to_z w64 c.in_ok-x.x ≡ pos c.in_ok-x.x = to_z_pos w64 c.in_ok-x.x (omega (arith, c.in_ok-x.ensures.within, high)) in
    let y_fits : to_z w64 c.in_ok-y.y ≡ pos c.in_ok-y.y = to_z_pos w64 c.in_ok-y.y (omega (arith, c.in_ok-y.ensures.within, high)) in
    rw (x_fits, y_fits) (anchor_in-first c.args.frame.now c.args.period c.args.index c.args.reader.now c.in_ok-x.x c.wide.new.reader
    (rw c.of-place.ensures at c.in_ok-x.ensures.exact) c.in_ok-y.y c.wide-2.new.reader (rw c.of-place.ensures at c.in_ok-y.ensures.exact))

use Rattle.std.proofs.Common.{◌≡◌, ◌-◌, ◌^◌, pos, ap, ap₂, sym, ◌∙◌, to_z-of_z, arith}
use Rattle.std.proofs.lemmas.Int.{ints}
use Rattle.spiral_code.specs.Spiral.{code_of, move_of}
use Rattle.spiral_code.proofs.SpiralLemmas.{code_of-zero, move_of-zero, code_of-below, move_of-code_of}
use Rattle.spiral_code.proofs.moves.encode_move.Goals as goal

pub returns-then-dy-eq0-clause-exact : goal.returns-then-dy-eq0-clause-exact
returns-then-dy-eq0-clause-exact c =
    let still_dx : c.args.dx ≡ pos 0 = omega (arith, ints) in
    let still_dy : c.args.dy ≡ pos 0 = omega (arith, ints) in
    sym (ap₂ code_of still_dx still_dy ∙ code_of-zero)

pub returns-then-dy-eq0-clause-back : goal.returns-then-dy-eq0-clause-back
returns-then-dy-eq0-clause-back c =
    let still_dx : pos 0 ≡ c.args.dx = omega (arith, ints) in
    let still_dy : pos 0 ≡ c.args.dy = omega (arith, ints) in
    move_of-zero ∙ ap₂ (λ x y. (x, y)) still_dx still_dy

-- the place's code is that of the movement
result_is : (c : goal.After-code) → c.code.result ≡ code_of c.args.dx c.args.dy
result_is c =
    let fits_dx = c.ranges.dx in
    let fits_dy = c.ranges.dy in
    c.code.ensures ∙ ap (λ m. code_of m.0 m.1) (simp to_z-of_z at c.from_move.ensures)

pub returns-clause-within : goal.returns-clause-within
returns-clause-within c =
    omega (arith, result_is c, (code_of-below c.args.dx c.args.dy (2 ^ 24 - 1)).1 (omega (arith, c.requires)))

pub returns-clause-back : goal.returns-clause-back
returns-clause-back c = ap move_of (result_is c) ∙ move_of-code_of c.args.dx c.args.dy

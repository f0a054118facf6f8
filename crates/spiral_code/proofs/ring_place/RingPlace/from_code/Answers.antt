use Rattle.std.proofs.Common.{◌≡◌, ◌-◌, ◌*◌, ◌/◌, ◌%◌, ◌<◌, ap, sym, ◌∙◌, div-add-mod', rules, arith}
use Rattle.spiral_code.specs.Side.{sides_before}
use Rattle.spiral_code.specs.Spiral.{move_of}
use Rattle.spiral_code.proofs.RingPlaceLemmas.{code_at, move_of-code_at}
use Rattle.spiral_code.proofs.ring_place.RingPlace.from_code.Goals as goal

pub returns : goal.returns
returns c =
    let code = c.args.code in
    let r = c.ring-ring.result in
    let side = c.nth-side.result in
    let place = code - c.first_code.result in
    let step = place % (2 * r) in
    let outside : 0 < r = search rules in
    let sides : sides_before side * (2 * r) ≡ place / (2 * r) * (2 * r) = ap (λ n. n * (2 * r)) c.nth-side.ensures in
    let code_is : code_at r side step ≡ code = omega (arith, div-add-mod' place (2 * r)) in
    sym (move_of-code_at r side step (omega arith)) ∙ ap move_of code_is

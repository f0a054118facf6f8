use Rattle.std.proofs.Common.{◌≡◌, ◌*◌, ap, sym, ◌∙◌, arith}
use Rattle.spiral_code.specs.Side.{sides_before}
use Rattle.spiral_code.proofs.RingPlaceLemmas.{code_of-move_at}
use Rattle.spiral_code.proofs.ring_place.RingPlace.code.Goals as goal

pub returns : goal.returns
returns c =
    let place = c.args.self in
    let side_length = 2 * place.ring in
    let sides : c.number.result * side_length ≡ sides_before place.side * side_length =
    ap (λ n. n * side_length) c.number.ensures
    in
    omega (arith, c.first_code.ensures) ∙ sym (code_of-move_at place.ring place.side place.step place.on_side)

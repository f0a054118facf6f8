use Rattle.std.proofs.Common.{◌<◌, [], ◌∷◌, refl, arith}
use Rattle.std.proofs.lemmas.Int.{ints}
use Rattle.rule_store.proofs.PackLemmas.{bounding_box_of-move, displacement_of-move, entry_with-absence, is_move_of, same_entry}
use Rattle.rule_store.proofs.joining.terminal_entry.Goals as goal

pub returns-then-value-eq0 : goal.returns-then-value-eq0
returns-then-value-eq0 c = rw c.if-value-eq0.true (entry_with-absence c.args.symbol)

pub returns : goal.returns
returns c =
    let some : 0 < c.args.value = omega arith in
    let move = c.decode_move-dx.result in
    let is = is_move_of c.args.value move some c.decode_move-dx.ensures.exact in
    let by = displacement_of-move c.args.value move.0 move.1 some is in
    same_entry _ c.args.symbol (c.args.value ∷ []) refl refl (omega (arith, ints, by.0)) (omega (arith, ints, by.1))
    (rw c.of-hull.ensures (bounding_box_of-move c.args.value _ move.0 move.1 some is (omega (arith, ints)) (omega (arith, ints))
    (omega (arith, ints)) (omega (arith, ints))))

use Rattle.std.proofs.Common.{◌++◌, refl, arith}
use Rattle.std.proofs.lemmas.Int.{ints}
use Rattle.std.proofs.lemmas.List.{length-append}
use Rattle.rule_store.specs.Boxes.{bounding_box_of}
use Rattle.rule_store.proofs.CellLemmas.{displacement_of-columns, displacement_of-lines}
use Rattle.rule_store.proofs.PackLemmas.{bounding_box_of-append, same_entry, same_hull}
use Rattle.rule_store.proofs.joining.join.Goals as goal

pub returns : goal.returns
returns c = λ lefts rights left right.
    let first = same_hull c.args.left.hull c.unpack.result (bounding_box_of lefts) c.unpack.ensures.value left.hull in
    let second = same_hull c.args.right.hull c.unpack-2.result
    (bounding_box_of rights) c.unpack-2.ensures.value right.hull in
    same_entry _ c.args.symbol (lefts ++ rights) refl (omega (arith, length-append lefts rights))
    (omega (arith, ints, displacement_of-columns lefts rights))
    (omega (arith, ints, displacement_of-lines lefts rights))
    (bounding_box_of-append lefts rights _ _ (omega (arith, ints)) (omega (arith, ints)) c.unpack.result
    c.unpack-2.result c.shift.result c.join_boxes.result first second c.shift.ensures c.join_boxes.ensures)

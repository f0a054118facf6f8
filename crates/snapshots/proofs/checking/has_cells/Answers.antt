use Rattle.std.proofs.Common.{arith, length-take, refl, sym, take}
use Rattle.packed_bits.proofs.OnesLemmas.{ones_of-nil, ones_of-le-length}
use Rattle.snapshots.proofs.CellsLemmas.{bool_byte-small, ones_of-take_more, last_read}
use Rattle.snapshots.proofs.checking.has_cells.Goals as goal

pub loop-place-init : goal.loop-place-init
loop-place-init c = record { count = sym ones_of-nil; last = refl }

pub overflow_add-cells : goal.overflow_add-cells
overflow_add-cells c =
    let seen = take c.loop-place.place c.args.lasts.now in
    omega (
      arith,
      c.loop-place.invariant.count,
      ones_of-le-length seen,
      length-take c.loop-place.place c.args.lasts.now,
      c.from-cells.ensures,
      bool_byte-small c.get-is_last.result,
    )

pub loop-place-preserved : goal.loop-place-preserved
loop-place-preserved c =
    let bits = c.args.lasts.now in
    let place = c.loop-place.place in
    let more =
    ones_of-take_more bits place c.get-is_last.result (omega (arith, c.len-place-end.ensures)) c.get-is_last.ensures in
    record {
      count = omega (arith, more, c.loop-place.invariant.count, c.from-cells.ensures);
      last = last_read bits place c.get-is_last.result c.get-is_last.ensures;
    }

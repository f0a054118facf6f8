use Rattle.std.proofs.Common.{arith, length-take, sym, take}
use Rattle.packed_bits.proofs.OnesLemmas.{ones_of-nil, ones_of-le-length}
use Rattle.part_tests.proofs.CountLemmas.{bool_byte-small, ones_of-take_more}
use Rattle.part_tests.proofs.period_blocks.count_ones.Goals as goal

pub loop-place-init : goal.loop-place-init
loop-place-init c = sym ones_of-nil

pub overflow_add-ones : goal.overflow_add-ones
overflow_add-ones c =
    omega (
      arith,
      c.loop-place.invariant,
      ones_of-le-length (take c.loop-place.place c.args.bits.now),
      length-take c.loop-place.place c.args.bits.now,
      c.from-ones.ensures,
      bool_byte-small c.get.result,
    )

pub loop-place-preserved : goal.loop-place-preserved
loop-place-preserved c =
    let more = ones_of-take_more c.args.bits.now c.loop-place.place c.get.result
    (omega (arith, c.len-place-end.ensures)) c.get.ensures in
    omega (arith, more, c.loop-place.invariant, c.from-ones.ensures)

use Rattle.std.proofs.Common.{arith}
use Rattle.movement_log.proofs.ObjectLemmas.{object_place-le, object_place-next}
use Rattle.movement_log.proofs.blocks.object_index.Goals as goal

pub overflow_add-result : goal.overflow_add-result
overflow_add-result c =
    let rows = c.args.rows.now in
    let next = object_place-next rows c.requires.ascending c.args.at c.requires.within c.if-at-gt0.true c.if-rows-at.true in
    record { fits = omega (arith, object_place-le rows c.args.at, c.requires.few, c.requires.before, next) }

pub returns-then-rows-at : goal.returns-then-rows-at
returns-then-rows-at c =
    let next = object_place-next c.args.rows.now c.requires.ascending c.args.at c.requires.within c.if-at-gt0.true c.if-rows-at.true in
    omega (arith, c.requires.before, next)

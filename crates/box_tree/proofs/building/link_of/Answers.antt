use Rattle.std.proofs.Common.{◌+◌, ◌^◌, ◌<◌, arith}
use Rattle.box_tree.proofs.RunLemmas.{square_start-up}
use Rattle.box_tree.proofs.building.link_of.Goals as goal
use Rattle.box_tree.proofs.PlacesLemmas.{square_start-le}

pub overflow_sub-task : goal.overflow_sub-task
overflow_sub-task c =
    let up = square_start-up c.args.codes.now c.args.task.level c.args.task.prefix in
    omega (arith, up, c.requires.is.places.low_is, c.requires.is.places.high_is)

pub overflow_add-result : goal.overflow_add-result
overflow_add-result c =
    let most = square_start-le c.args.codes.now c.args.task.level (c.args.task.prefix + 1) in
    let few : c.args.task.high < 2 ^ 31 = omega (arith, most, c.requires.is.places.high_is, c.requires.short) in
    omega (arith, few)
